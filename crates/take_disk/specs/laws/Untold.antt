-- A disk that tells nothing keeps all laws on what is told (own). The laws of `TakeDisk` cite this.
use Rattle.std.proofs.Common.{◌≡◌, Some, None}
use Rattle.std.proofs.lemmas.Option.{none-some}

pub untold : {T A : Type 0} (told : T) → None ≡ Some told → A
untold told e = absurd (none-some told e)
