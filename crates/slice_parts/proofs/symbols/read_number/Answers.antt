use Rattle.std.proofs.Common.{rules}
use Rattle.slice_parts.proofs.symbols.read_number.Goals as goal

pub returns-in-Err-clause-refused : goal.returns-in-Err-clause-refused
returns-in-Err-clause-refused c =
    record {
      none = λ n spelling rest spells e. let again = (c.in-Err.ensures.again n spelling rest spells e).0 in search rules;
      cause = c.in-Err.fault;
      why = c.in-Err.ensures.refused;
      is = c.of_code.ensures;
    }
