use Rattle.take_core.proofs.SoundLemmas.{sound-fresh, sound-steps}
use Rattle.take_core.proofs.laws.states_stay_sound.Goals as goal

pub returns : goal.returns
returns c = record {
  begun = sound-fresh;
  kept = λ old new event answer steps sound. sound-steps old event answer new steps sound;
}
