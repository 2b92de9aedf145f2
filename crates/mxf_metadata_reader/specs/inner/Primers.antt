-- A primer pack that is read, or none (own).
use Rattle.std.specs.Prelude.{◌≡◌, ◌≤◌, ℕ, List, length, drop}
use Rattle.klv.specs.Items.{spelled}
use Rattle.mxf_metadata_reader.specs.Reads.{HasPrimer}
use Rattle.mxf_metadata_reader.specs.inner.Places.{IsTable}
use Rattle.mxf_metadata_reader.specs.declared.primer.Primer.{Primer}
use Rattle.mxf_metadata_reader.specs.declared.fault.SetFault.{SetFault}
use Rattle.mxf_metadata_reader.specs.declared.fault.SetFault.TheVariants.{Memory, NotPrimer, UnknownTag, SetCut, ItemSize, BrokenReference}

-- the primer pack with which bytes begin: its tags, and where it ends
pub record IsPrimer (bytes : List ℕ) (primer : Primer) : Type 0 where
  pub front : HasPrimer bytes
  pub table : IsTable primer.listed.items front.tags
  pub place : primer.end ≡ length (spelled front.primer)
  pub end : primer.end ≤ length bytes
  pub rest : drop primer.end bytes ≡ front.stands.rest

-- bytes begin with none, or there is no memory
abbrev pub IsNoPrimer : List ℕ → SetFault → Type 0
IsNoPrimer bytes Memory = Unit {0}
IsNoPrimer bytes NotPrimer = ¬ HasPrimer bytes
IsNoPrimer bytes (UnknownTag at tag) = ⊥
IsNoPrimer bytes (SetCut at tag) = ⊥
IsNoPrimer bytes (ItemSize at tag) = ⊥
IsNoPrimer bytes (BrokenReference at tag) = ⊥
