-- A feed of pictures has one list of pictures.
use Rattle.std.proofs.Common.{◌≡◌, ℕ, suc, ◌<◌, List, [], ◌∷◌, length, drop, get_or, slice_index, map, All, refl, sym, ap}
use Rattle.std.proofs.Common.{◌∙◌, subst, arith}
use Rattle.std.proofs.lemmas.List.{ext_get_or}
use Rattle.rec_bytes.specs.Configuration.{Fields}
use Rattle.picture_plane.specs.Pictures.{Planes, sample_count}
use Rattle.raw_feed.specs.declared.kind.Kind.TheVariants.{Pictures}
use Rattle.raw_feed.specs.Items.{Ending, sample_in}
use Rattle.raw_feed.specs.Pictures.{spelled, picture_bytes, IsPictureFor, IsPictureFeed}
use Rattle.raw_feed.proofs.FeedLemmas.{one_feed_of}
use Rattle.raw_feed.proofs.SampleLemmas.{sample_spelled}

-- samples are one, where their bytes are
one_samples : (xs ys : List ℕ) → ((k : ℕ) → slice_index xs k < 1024) → ((k : ℕ) → slice_index ys k < 1024) → length xs ≡ length ys
    → spelled xs ≡ spelled ys → xs ≡ ys
one_samples xs ys small small_too long e =
    ext_get_or 0 xs ys long
    (λ k less.
    let a = small k in
    let b = small_too k in
    sym (sample_spelled xs k less (omega arith)) ∙ ap (λ (bytes : List ℕ). sample_in bytes k) e ∙ sample_spelled ys k (omega arith) (omega arith))

one_picture : (config : Fields) (one other : Planes) → IsPictureFor config one → IsPictureFor config other → picture_bytes one ≡ picture_bytes other
    → one ≡ other
one_picture config one other p q e =
    let size : one.size ≡ other.size = p.size ∙ sym q.size in
    let long : length one.samples ≡ length other.samples = p.whole.all ∙ ap sample_count size ∙ sym q.whole.all in
    let samples : one.samples ≡ other.samples = one_samples one.samples other.samples p.whole.small q.whole.small long e in
    λ i. record { size = size i; samples = samples i }

one_list : (config : Fields) (pictures others : List Planes) → All (IsPictureFor config) pictures → All (IsPictureFor config) others
    → map picture_bytes pictures ≡ map picture_bytes others → pictures ≡ others
one_list config [] [] p q e = refl
one_list config [] (y ∷ ys) p q e = absurd (let l = ap (length {A = List ℕ}) e in omega arith)
one_list config (x ∷ xs) [] p q e = absurd (let l = ap (length {A = List ℕ}) e in omega arith)
one_list config (x ∷ xs) (y ∷ ys) p q e =
    let first = one_picture config x y (p 0 x (omega arith)) (q 0 x (omega arith)) (ap (λ (bs : List (List ℕ)). get_or bs 0 []) e) in
    let rest = one_list config xs ys (λ k d h. p (suc k) d (omega arith)) (λ k d h. q (suc k) d (omega arith)) (ap (drop 1) e) in
    λ i. first i ∷ rest i

-- two lists of pictures of the same bytes are one
pub one_picture_feed : (bytes : List ℕ) (one two : Fields) (pictures others : List Planes) (ending other : Ending)
    → IsPictureFeed bytes one pictures ending → IsPictureFeed bytes two others other → (pictures ≡ others) × (ending ≡ other)
one_picture_feed bytes one two pictures others ending other f g =
    let same = one_feed_of Pictures bytes one two (map picture_bytes pictures) (map picture_bytes others) ending other f.feed g.feed in
    (one_list one pictures others f.sized (subst (λ (c : Fields). All (IsPictureFor c) others) (sym same.0) g.sized) same.1, same.2)
