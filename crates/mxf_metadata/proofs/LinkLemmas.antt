-- What is said of links stays true where identifiers are renamed one to one.
use Rattle.std.proofs.Common.{◌≡◌, ℕ, suc, ◌==◌, not, ◌&&◌, ◌||◌, Bool, true, false, cond, List, [], ◌∷◌, ◌++◌, length, map, refl, sym, ap, ap₂, ◌∙◌, subst}
use Rattle.std.proofs.lemmas.Bool.{eq-eqb}
use Rattle.std.specs.List.{flat_map, filter, list_any, AllByRecursion, IsDistinct}
use Rattle.std.specs.Str.{bytes_eq}
use Rattle.mxf_metadata.specs.Links.{Reference, Node, of_kind, but_kind, AreOwned, with_id, named, is_one_of, is_resolved, kinds_named, AreResolved, own_ids, named_ids}
use Rattle.mxf_metadata.specs.Links.{is_picture, picture_tracks, picture_clips, IsSequence, AreSequences, ShowsFile}
use Rattle.mxf_metadata.specs.declared.labels.TheConstants.{PREFACE_SET, SEQUENCE_SET, CLIP_SET, FILE_SET, MATERIAL_SET, CONTAINER_SET}
use Rattle.mxf_metadata.specs.declared.tags.TheConstants.{SEQUENCE, TRACKS, STRUCTURAL_COMPONENTS, DESCRIPTOR}

-- a reference and a set with other identifiers
abbrev pub renamed_reference : {I J : Type 0} → (I → J) → Reference I → Reference J
renamed_reference f reference = record { tag = reference.tag; id = f reference.id }

abbrev pub renamed : {I J : Type 0} → (I → J) → Node I → Node J
renamed f n = record {
  kind = n.kind;
  own = map f n.own;
  names = map (renamed_reference f) n.names;
  definitions = n.definitions;
  packages = n.packages;
  sources = n.sources;
  linked_packages = n.linked_packages;
  track_ids = n.track_ids;
  source_tracks = n.source_tracks;
  linked_tracks = n.linked_tracks;
  track_numbers = n.track_numbers;
}

-- the tests of which identifiers are the same agree
pub record IsOneToOne {I J : Type 0} (f : I → J) (eq : I → I → Bool) (eqj : J → J → Bool) : Type 0 where
  pub same : (a b : I) → eqj (f a) (f b) ≡ eq a b

-- of mapped lists
pushed : {A B : Type 0} (f : A → B) (b : Bool) (x : A) (xs : List A) → cond b (f x ∷ map f xs) (map f xs) ≡ map f (cond b (x ∷ xs) xs)
pushed f true x xs = refl
pushed f false x xs = refl

filter_map_same : {A B : Type 0} (f : A → B) (p : A → Bool) (q : B → Bool) (xs : List A) → ((x : A) → q (f x) ≡ p x) → filter q (map f xs) ≡ map f (filter p xs)
filter_map_same f p q [] h = refl
filter_map_same f p q (x ∷ xs) h =
    ap₂ (λ (b : Bool) (rest : List _). cond b (f x ∷ rest) rest) (h x) (filter_map_same f p q xs h) ∙ pushed f (p x) x (filter p xs)

any_same : {A B : Type 0} (f : A → B) (p : A → Bool) (q : B → Bool) (xs : List A) → ((x : A) → q (f x) ≡ p x) → list_any q (map f xs) ≡ list_any p xs
any_same f p q [] h = refl
any_same f p q (x ∷ xs) h = ap₂ (λ (a b : Bool). a || b) (h x) (any_same f p q xs h)

append_same : {A B : Type 0} (f : A → B) (xs ys : List A) → map f (xs ++ ys) ≡ map f xs ++ map f ys
append_same f [] ys = refl
append_same f (x ∷ xs) ys = ap (λ (rest : List _). f x ∷ rest) (append_same f xs ys)

flat_same : {A B C D : Type 0} (f : A → B) (r : C → D) (g : A → List C) (h : B → List D) (xs : List A) → ((x : A) → h (f x) ≡ map r (g x)) → flat_map h (map f xs) ≡ map r (flat_map g xs)
flat_same f r g h [] e = refl
flat_same f r g h (x ∷ xs) e = ap₂ (λ (a b : List _). a ++ b) (e x) (flat_same f r g h xs e) ∙ sym (append_same r (g x) (flat_map g xs))

values_same : {A B C : Type 0} (f : A → B) (g : A → List C) (h : B → List C) (xs : List A) → ((x : A) → h (f x) ≡ g x) → flat_map h (map f xs) ≡ flat_map g xs
values_same f g h [] e = refl
values_same f g h (x ∷ xs) e = ap₂ (λ (a b : List _). a ++ b) (e x) (values_same f g h xs e)

length_same : {A B : Type 0} (f : A → B) (xs : List A) → length (map f xs) ≡ length xs
length_same f [] = refl
length_same f (x ∷ xs) = ap (λ (n : ℕ). suc n) (length_same f xs)

all_same : {A B : Type 0} (f : A → B) (P : A → Type 0) (Q : B → Type 0) (xs : List A) → ((x : A) → P x → Q (f x)) → AllByRecursion P xs → AllByRecursion Q (map f xs)
all_same f P Q [] e h = tt
all_same f P Q (x ∷ xs) e h = (e x h.0, all_same f P Q xs e h.1)

pub distinct_same : {I J : Type 0} (f : I → J) (eq : I → I → Bool) (eqj : J → J → Bool) (ids : List I) → IsOneToOne f eq eqj → IsDistinct eq ids → IsDistinct eqj (map f ids)
unfolding IsDistinct
distinct_same f eq eqj [] o h = tt
distinct_same f eq eqj (id ∷ ids) o h =
    (all_same f (λ other. eq id other ≡ false) (λ other. eqj (f id) other ≡ false) ids (λ other e. o.same id other ∙ e) h.0, distinct_same f eq eqj ids o h.1)

-- identifiers of renamed sets
pub own_same : {I J : Type 0} (f : I → J) (ns : List (Node I)) → own_ids (map (renamed f) ns) ≡ map f (own_ids ns)
own_same f ns = flat_same (renamed f) f (λ n. n.own) (λ n. n.own) ns (λ n. refl)

ids_same : {I J : Type 0} (f : I → J) (rs : List (Reference I)) → map (λ r. r.id) (map (renamed_reference f) rs) ≡ map f (map (λ r. r.id) rs)
ids_same f [] = refl
ids_same f (r ∷ rs) = ap (λ (rest : List _). f r.id ∷ rest) (ids_same f rs)

pub named_ids_same : {I J : Type 0} (f : I → J) (ns : List (Node I)) → named_ids (map (renamed f) ns) ≡ map f (named_ids ns)
named_ids_same f ns = flat_same (renamed f) f (λ n. map (λ r. r.id) n.names) (λ n. map (λ r. r.id) n.names) ns (λ n. ids_same f n.names)

-- the sets with an identifier, and those that a set names
with_same : {I J : Type 0} (f : I → J) (eq : I → I → Bool) (eqj : J → J → Bool) (ns : List (Node I)) (id : I) → IsOneToOne f eq eqj
    → with_id eqj (map (renamed f) ns) (f id) ≡ map (renamed f) (with_id eq ns id)
with_same f eq eqj ns id o =
    filter_map_same (renamed f) (λ n. list_any (eq id) n.own) (λ n. list_any (eqj (f id)) n.own) ns (λ n. any_same f (eq id) (eqj (f id)) n.own (o.same id))

if_same : {A B : Type 0} (f : A → B) (b : Bool) (xs : List A) → cond b (map f xs) [] ≡ map f (cond b xs [])
if_same f true xs = refl
if_same f false xs = refl

named_same : {I J : Type 0} (f : I → J) (eq : I → I → Bool) (eqj : J → J → Bool) (ns : List (Node I)) (tag : ℕ) (n : Node I) → IsOneToOne f eq eqj
    → named eqj (map (renamed f) ns) tag (renamed f n) ≡ map (renamed f) (named eq ns tag n)
named_same f eq eqj ns tag n o =
    flat_same (renamed_reference f) (renamed f)
    (λ r. cond (r.tag == tag) (with_id eq ns r.id) []) (λ r. cond (r.tag == tag) (with_id eqj (map (renamed f) ns) r.id) []) n.names
    (λ r. ap (λ (list : List _). cond (r.tag == tag) list []) (with_same f eq eqj ns r.id o) ∙ if_same (renamed f) (r.tag == tag) (with_id eq ns r.id))

-- of several sets
all_named_same : {I J : Type 0} (f : I → J) (eq : I → I → Bool) (eqj : J → J → Bool) (ns : List (Node I)) (tag : ℕ) (xs : List (Node I)) → IsOneToOne f eq eqj
    → flat_map (named eqj (map (renamed f) ns) tag) (map (renamed f) xs) ≡ map (renamed f) (flat_map (named eq ns tag) xs)
all_named_same f eq eqj ns tag xs o =
    flat_same (renamed f) (renamed f) (named eq ns tag) (named eqj (map (renamed f) ns) tag) xs (λ n. named_same f eq eqj ns tag n o)

kind_same : {I J : Type 0} (f : I → J) (kind : ℕ) (ns : List (Node I)) → of_kind kind (map (renamed f) ns) ≡ map (renamed f) (of_kind kind ns)
kind_same f kind ns = filter_map_same (renamed f) (λ n. n.kind == kind) (λ n. n.kind == kind) ns (λ n. refl)

one_same : {I J : Type 0} (f : I → J) (kinds : List ℕ) (ns : List (Node I)) → is_one_of kinds (map (renamed f) ns) ≡ is_one_of kinds ns
one_same f kinds [] = refl
one_same f kinds (n ∷ []) = refl
one_same f kinds (n ∷ m ∷ ns) = refl

-- the sets are told apart, and named, as those are
pub owned_same : {I J : Type 0} (f : I → J) (eq : I → I → Bool) (eqj : J → J → Bool) (ns : List (Node I)) → IsOneToOne f eq eqj → AreOwned eq ns → AreOwned eqj (map (renamed f) ns)
owned_same f eq eqj ns o h =
    let others = filter_map_same (renamed f) (λ n. not (n.kind == PREFACE_SET)) (λ n. not (n.kind == PREFACE_SET)) ns (λ n. refl) in
    let own = ap (λ (list : List (Node _)). own_ids list) others ∙ own_same f (but_kind PREFACE_SET ns) in
    record {
      preface = ap (λ (list : List (Node _)). length list) (kind_same f PREFACE_SET ns) ∙ length_same (renamed f) (of_kind PREFACE_SET ns) ∙ h.preface;
      distinct = subst (λ (list : List _). IsDistinct eqj list) (sym (own_same f ns)) (distinct_same f eq eqj (own_ids ns) o h.distinct);
      once = subst (λ (list : List _). IsDistinct eqj list) (sym (named_ids_same f ns)) (distinct_same f eq eqj (named_ids ns) o h.once);
      all = subst (λ (list : List _). AllByRecursion (λ id. list_any (eqj id) (named_ids (map (renamed f) ns)) ≡ true) list) (sym own)
          (all_same f (λ id. list_any (eq id) (named_ids ns) ≡ true) (λ id. list_any (eqj id) (named_ids (map (renamed f) ns)) ≡ true) (own_ids (but_kind PREFACE_SET ns))
          (λ id e. ap (λ (list : List _). list_any (eqj (f id)) list) (named_ids_same f ns) ∙ any_same f (eq id) (eqj (f id)) (named_ids ns) (o.same id) ∙ e) h.all);
    }

-- references
resolved_same : {I J : Type 0} (f : I → J) (eq : I → I → Bool) (eqj : J → J → Bool) (ns : List (Node I)) (r : Reference I) → IsOneToOne f eq eqj
    → is_resolved eqj (map (renamed f) ns) (renamed_reference f r) ≡ is_resolved eq ns r
resolved_same f eq eqj ns r o =
    ap (is_one_of (kinds_named r.tag)) (with_same f eq eqj ns r.id o) ∙ one_same f (kinds_named r.tag) (with_id eq ns r.id)

pub are_resolved_same : {I J : Type 0} (f : I → J) (eq : I → I → Bool) (eqj : J → J → Bool) (ns : List (Node I)) → IsOneToOne f eq eqj → AreResolved eq ns → AreResolved eqj (map (renamed f) ns)
are_resolved_same f eq eqj ns o h =
    all_same (renamed f) (λ n. AllByRecursion (λ r. is_resolved eq ns r ≡ true) n.names) (λ n. AllByRecursion (λ r. is_resolved eqj (map (renamed f) ns) r ≡ true) n.names) ns
    (λ n p. all_same (renamed_reference f) (λ r. is_resolved eq ns r ≡ true) (λ r. is_resolved eqj (map (renamed f) ns) r ≡ true) n.names (λ r q. resolved_same f eq eqj ns r o ∙ q) p) h

-- sequences
sequence_same : {I J : Type 0} (f : I → J) (eq : I → I → Bool) (eqj : J → J → Bool) (ns : List (Node I)) (n : Node I) → IsOneToOne f eq eqj
    → IsSequence eq ns n → IsSequence eqj (map (renamed f) ns) (renamed f n)
sequence_same f eq eqj ns n o h =
    let parts = named_same f eq eqj ns STRUCTURAL_COMPONENTS n o in
    record {
      alike = ap (λ (list : List (Node _)). flat_map (λ m. m.definitions) list) parts
          ∙ values_same (renamed f) (λ m. m.definitions) (λ m. m.definitions) (named eq ns STRUCTURAL_COMPONENTS n) (λ m. refl) ∙ h.alike;
      clip = λ p. ap (is_one_of (CLIP_SET ∷ [])) parts ∙ one_same f (CLIP_SET ∷ []) (named eq ns STRUCTURAL_COMPONENTS n) ∙ h.clip p;
    }

pub sequences_same : {I J : Type 0} (f : I → J) (eq : I → I → Bool) (eqj : J → J → Bool) (ns : List (Node I)) → IsOneToOne f eq eqj → AreSequences eq ns → AreSequences eqj (map (renamed f) ns)
sequences_same f eq eqj ns o h =
    subst (λ (list : List (Node _)). AllByRecursion (IsSequence eqj (map (renamed f) ns)) list) (sym (kind_same f SEQUENCE_SET ns))
    (all_same (renamed f) (IsSequence eq ns) (IsSequence eqj (map (renamed f) ns)) (of_kind SEQUENCE_SET ns) (λ n p. sequence_same f eq eqj ns n o p) h)

-- picture tracks and their clips
tracks_same : {I J : Type 0} (f : I → J) (eq : I → I → Bool) (eqj : J → J → Bool) (kind : ℕ) (ns : List (Node I)) → IsOneToOne f eq eqj
    → picture_tracks eqj kind (map (renamed f) ns) ≡ map (renamed f) (picture_tracks eq kind ns)
tracks_same f eq eqj kind ns o =
    let is_of = λ (n : Node _). list_any is_picture (named eqj (map (renamed f) ns) SEQUENCE n) in
    let packages = ap (λ (list : List (Node _)). flat_map (named eqj (map (renamed f) ns) TRACKS) list) (kind_same f kind ns) ∙ all_named_same f eq eqj ns TRACKS (of_kind kind ns) o in
    ap (λ (list : List (Node _)). filter is_of list) packages
    ∙ filter_map_same (renamed f) (λ n. list_any is_picture (named eq ns SEQUENCE n)) is_of (flat_map (named eq ns TRACKS) (of_kind kind ns))
    (λ n. ap (λ (list : List (Node _)). list_any is_picture list) (named_same f eq eqj ns SEQUENCE n o) ∙ any_same (renamed f) is_picture is_picture (named eq ns SEQUENCE n) (λ m. refl))

clips_same : {I J : Type 0} (f : I → J) (eq : I → I → Bool) (eqj : J → J → Bool) (kind : ℕ) (ns : List (Node I)) → IsOneToOne f eq eqj
    → picture_clips eqj kind (map (renamed f) ns) ≡ map (renamed f) (picture_clips eq kind ns)
clips_same f eq eqj kind ns o =
    let sequences = ap (λ (list : List (Node _)). flat_map (named eqj (map (renamed f) ns) SEQUENCE) list) (tracks_same f eq eqj kind ns o) ∙ all_named_same f eq eqj ns SEQUENCE (picture_tracks eq kind ns) o in
    ap (λ (list : List (Node _)). flat_map (named eqj (map (renamed f) ns) STRUCTURAL_COMPONENTS) list) sequences
    ∙ all_named_same f eq eqj ns STRUCTURAL_COMPONENTS (flat_map (named eq ns SEQUENCE) (picture_tracks eq kind ns)) o

-- values of sets that are known by their renamed ones
known : {I J A : Type 0} (f : I → J) (g : Node I → List A) (h : Node J → List A) (xs : List (Node J)) (ns : List (Node I)) → ((n : Node I) → h (renamed f n) ≡ g n) → xs ≡ map (renamed f) ns → flat_map h xs ≡ flat_map g ns
known f g h xs ns same e = ap (λ (list : List (Node _)). flat_map h list) e ∙ values_same (renamed f) g h ns same

pub shows_same : {I J : Type 0} (f : I → J) (eq : I → I → Bool) (eqj : J → J → Bool) (ns : List (Node I)) → IsOneToOne f eq eqj → ShowsFile eq ns → ShowsFile eqj (map (renamed f) ns)
shows_same f eq eqj ns o h =
    let files = kind_same f FILE_SET ns in
    let tracks = tracks_same f eq eqj FILE_SET ns o in
    let clips = clips_same f eq eqj MATERIAL_SET ns o in
    let descriptors = ap (λ (list : List (Node _)). flat_map (named eqj (map (renamed f) ns) DESCRIPTOR) list) files ∙ all_named_same f eq eqj ns DESCRIPTOR (of_kind FILE_SET ns) o in
    record {
      material = ap (λ (list : List (Node _)). length list) (kind_same f MATERIAL_SET ns) ∙ length_same (renamed f) (of_kind MATERIAL_SET ns) ∙ h.material;
      umid = h.umid;
      file = known f (λ n. n.packages) (λ n. n.packages) (of_kind FILE_SET (map (renamed f) ns)) (of_kind FILE_SET ns) (λ n. refl) files ∙ h.file;
      stored = known f (λ n. n.linked_packages) (λ n. n.linked_packages) (of_kind CONTAINER_SET (map (renamed f) ns)) (of_kind CONTAINER_SET ns) (λ n. refl) (kind_same f CONTAINER_SET ns) ∙ h.stored;
      track = h.track;
      pictures = known f (λ n. n.track_ids) (λ n. n.track_ids) (picture_tracks eqj FILE_SET (map (renamed f) ns)) (picture_tracks eq FILE_SET ns) (λ n. refl) tracks ∙ h.pictures;
      elements = known f (λ n. n.track_numbers) (λ n. n.track_numbers) (picture_tracks eqj FILE_SET (map (renamed f) ns)) (picture_tracks eq FILE_SET ns) (λ n. refl) tracks ∙ h.elements;
      source = known f (λ n. n.sources) (λ n. n.sources) (picture_clips eqj MATERIAL_SET (map (renamed f) ns)) (picture_clips eq MATERIAL_SET ns) (λ n. refl) clips ∙ h.source;
      source_track = known f (λ n. n.source_tracks) (λ n. n.source_tracks) (picture_clips eqj MATERIAL_SET (map (renamed f) ns)) (picture_clips eq MATERIAL_SET ns) (λ n. refl) clips ∙ h.source_track;
      described = known f (λ n. n.linked_tracks) (λ n. n.linked_tracks) (flat_map (named eqj (map (renamed f) ns) DESCRIPTOR) (of_kind FILE_SET (map (renamed f) ns))) (flat_map (named eq ns DESCRIPTOR) (of_kind FILE_SET ns)) (λ n. refl) descriptors ∙ h.described;
    }

-- identifiers that begin alike
pub prefix_same : (pre xs ys : List ℕ) → bytes_eq (pre ++ xs) (pre ++ ys) ≡ bytes_eq xs ys
prefix_same [] xs ys = refl
prefix_same (c ∷ pre) xs ys = ap (λ (b : Bool). b && bytes_eq (pre ++ xs) (pre ++ ys)) (eq-eqb c c refl) ∙ prefix_same pre xs ys
