-- Slices that a worker has coded, when one more comes behind them.
use Rattle.std.proofs.Common.{◌≡◌, ℕ, ◌+◌, ◌≤◌, ◌∷◌, [], ◌++◌, List, All, take, drop, sym, ap, subst, ◌∙◌, arith}
use Rattle.std.proofs.lemmas.List.{drop-take, take-take}
use Rattle.std.proofs.lemmas.List.Elements.{All-push, All-weaker}
use Rattle.rec_bytes.specs.Configuration.{Fields}
use Rattle.picture_plane.specs.Pictures.{Planes}
use Rattle.frame_codec.specs.Sources.{IsNth}
use Rattle.slice_workers.specs.declared.hand.Piece.{Piece}
use Rattle.slice_workers.specs.inner.Hands.{IsPiece}

-- what stands in the first bytes stays where these stay
stays : (old new : List ℕ) (used at len : ℕ) → at + len ≤ used → take used new ≡ take used old → take len (drop at old) ≡ take len (drop at new)
stays old new used at len within same =
    sym (drop-take at len old)
    ∙ (ap (drop at) (sym (take-take (at + len) used old within) ∙ (ap (take (at + len)) (sym same) ∙ take-take (at + len) used new within))
    ∙ drop-take at len new)

-- a slice stays where more bytes are used
piece_stays : (fields : Fields) (picture : Planes) (old new : List ℕ) (used more : ℕ) → used ≤ more → take used new ≡ take used old
    → (piece : Piece) → IsPiece fields picture old used piece → IsPiece fields picture new more piece
piece_stays fields picture old new used more grows same piece is = record {
  within = omega (arith, grows, is.within);
  most = is.most;
  coded = subst (IsNth fields picture piece.number piece.n) (stays old new used piece.at piece.len is.within same) is.coded;
}

-- one slice more behind them
pub pieces_more : (fields : Fields) (picture : Planes) (old new : List ℕ) (used more : ℕ) (pieces : List Piece) (piece : Piece)
    → used ≤ more → take used new ≡ take used old → All (IsPiece fields picture old used) pieces → IsPiece fields picture new more piece
    → All (IsPiece fields picture new more) (pieces ++ piece ∷ [])
pieces_more fields picture old new used more pieces piece grows same are is =
    All-push (IsPiece fields picture new more) pieces piece
    (All-weaker (IsPiece fields picture old used) (IsPiece fields picture new more) (piece_stays fields picture old new used more grows same) pieces are) is
