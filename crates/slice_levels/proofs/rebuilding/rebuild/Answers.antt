use Rattle.std.proofs.Common.{length, arith, rules}
use Rattle.slice_levels.proofs.SampleLemmas.{products_small, rebuilt_of_products}
use Rattle.slice_levels.proofs.rebuilding.rebuild.Goals as goal

pub put_samples-requires-clause-sizes : goal.put_samples-requires-clause-sizes
put_samples-requires-clause-sizes c =
    let told = c.in_ok-put_products.ensures in
    products_small c.args.scan c.args.weights.now c.args.scale (length c.args.out.now) c.args.levels.now c.put_products.new.out (omega arith)
    told.products (told.accepted.0 (search rules))

pub returns-clause-rebuilt : goal.returns-clause-rebuilt
returns-clause-rebuilt c =
    rebuilt_of_products c.args.scan c.args.weights.now c.args.scale (length c.args.out.now) c.args.levels.now c.put_products.new.out c.put_samples.new.out
    (omega arith) c.in_ok-put_products.ensures.products c.put_samples.ensures.inverse
