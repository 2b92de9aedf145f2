use Rattle.take_layout.specs.laws.Files.{Laws, same_units}
use Rattle.take_layout.proofs.laws.files_are_one.Goals as goal

pub returns : goal.returns
returns g c = record {
  one = λ cfg units others rest other_rest ranged are those long same.
      let met = g.met.L.TakeLayout in
      let laws : Laws g.L.TakeLayout cfg =
      record { starts = met.starts cfg; grows = met.grows cfg; no_places = met.no_places cfg; more_places = met.more_places cfg } in
      same_units laws
      (λ before unit other more other_more one other_one is. met.one_next cfg before unit other more other_more ranged one other_one is)
      units others rest other_rest are those long same;
}
