-- Which code follows which symbol (RDD 36). docs/FORMATS.md, "Codes".
use Rattle.std.specs.Prelude.{ℕ, if◌then◌else◌, nat_lt}
use Rattle.prores_codes.specs.Codes.{Parameters, combination, order}

-- the code of a DC difference, by the size of the difference before
abbrev pub dc_parameters : ℕ → Parameters
dc_parameters size =
    if nat_lt size 1 then order 0
    else if nat_lt size 2 then order 1
    else if nat_lt size 3 then combination 1 2 3
    else order 3

-- the code of a run, by the run before
abbrev pub run_parameters : ℕ → Parameters
run_parameters run =
    if nat_lt run 2 then combination 2 0 1
    else if nat_lt run 4 then combination 1 0 1
    else if nat_lt run 5 then order 0
    else if nat_lt run 9 then combination 1 1 2
    else if nat_lt run 15 then order 1
    else order 2

-- the code of a size less one, by the size less one before
abbrev pub level_parameters : ℕ → Parameters
level_parameters size_less_one =
    if nat_lt size_less_one 1 then combination 2 0 2
    else if nat_lt size_less_one 2 then combination 1 0 1
    else if nat_lt size_less_one 3 then combination 2 0 1
    else if nat_lt size_less_one 4 then order 0
    else if nat_lt size_less_one 8 then order 1
    else order 2
