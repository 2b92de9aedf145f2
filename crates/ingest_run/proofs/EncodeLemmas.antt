-- What `encode` makes of a feed's pictures.
use Rattle.std.proofs.Common.{◌≡◌, ℕ, List, [], ◌∷◌, length, map, All, refl, ap, ap₂, ◌∙◌, subst, inl, inr}
use Rattle.std.proofs.lemmas.List.{length-map}
use Rattle.std.proofs.lemmas.List.Elements.{All-nil, All-cons}
use Rattle.std.specs.List.{AllZip}
use Rattle.rec_bytes.specs.Configuration.{Fields}
use Rattle.picture_plane.specs.Pictures.{Planes}
use Rattle.raw_feed.specs.declared.kind.Kind.TheVariants.{Pictures}
use Rattle.raw_feed.specs.Feeds.{IsFeedOf}
use Rattle.raw_feed.specs.Pictures.{IsPictureFor, picture_bytes}
use Rattle.run_parts.specs.Statuses.{ending_answer}
use Rattle.frame_codec.specs.Coded.{IsCodedFrame}
use Rattle.ingest_run.specs.Paces.{IsEncoded}
use Rattle.ingest_run.specs.Runs.{Encodes}
use Rattle.take_layout.specs.declared.layout.TakeLayout.{Ghosts}
use Rattle.ingest_run.proofs.ExitLemmas.{GrowsSo, StartsSo, StopsSo, Rests}
use Rattle.ingest_run.proofs.RunLemmas.{FeedsAreOne, SaysSo}

-- the pictures whose samples these bytes are, and whose frames these are
record HasPictures (config : Fields) (units frames : List (List ℕ)) : Type 0 where
  pub pictures : List Planes
  pub sized : All (IsPictureFor config) pictures
  pub spelled : units ≡ map picture_bytes pictures
  pub coded : AllZip (IsCodedFrame config) pictures frames

pictures_of : (config : Fields) (units frames : List (List ℕ)) → AllZip (IsEncoded config) units frames → HasPictures config units frames
pictures_of config [] [] h = record { pictures = []; sized = All-nil (IsPictureFor config); spelled = refl; coded = tt }
pictures_of config [] (frame ∷ frames) h = absurd h
pictures_of config (unit ∷ units) [] h = absurd h
pictures_of config (unit ∷ units) (frame ∷ frames) h =
    let rest = pictures_of config units frames h.1 in
    let first = h.0 in
    record {
      pictures = first.picture ∷ rest.pictures;
      sized = All-cons (IsPictureFor config) first.picture rest.pictures first.sized rest.sized;
      spelled = ap₂ (λ (u : List ℕ) (us : List (List ℕ)). u ∷ us) first.spelled rest.spelled;
      coded = (first.coded, rest.coded);
    }

-- what `encode` says
pub encode_says : (closed : Fields → List (List ℕ) → List ℕ) → SaysSo Pictures IsEncoded closed (Encodes closed)
encode_says closed = record {
  whole = λ bytes config units frames ending feed zip.
      let of = pictures_of config units frames zip in
      inl (record {
        config = config;
        pictures = of.pictures;
        frames = frames;
        ending = ending;
        feed = record { sized = of.sized; feed = subst (λ (us : List (List ℕ)). IsFeedOf Pictures bytes config us ending) of.spelled feed };
        coded = of.coded;
        file = refl;
        answered = ap (λ (n : ℕ). ending_answer n ending) (ap (length {A = List ℕ}) of.spelled ∙ length-map of.pictures picture_bytes);
      });
  head = λ bytes ending head. inr (record { ending = ending; feed = head; nothing = refl; answered = refl });
}

-- what `encode` rests on
pub encoding : {T : Type 0} (layout : Ghosts T) → GrowsSo layout → FeedsAreOne → StartsSo → StopsSo → Rests layout Pictures IsEncoded (Encodes layout.closed)
encoding layout laws one starts stops = record { laws = laws; says = encode_says layout.closed; one = one; starts = starts; stops = stops }
