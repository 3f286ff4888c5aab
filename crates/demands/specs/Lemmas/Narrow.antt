-- How many bits a reader can lack: no more than the widest of what it holds to the payload's end, its fields and the declared ends of its elements.
use Rattle.std.specs.Prelude.{◌≡◌, refl, Bool, true, false, List, [], ◌∷◌, ℕ, zero, suc, ◌+◌, ◌*◌, ◌≤◌, ◌<◌, eqb, leb, length}
use Rattle.std.proofs.Common.{sym, subst, arith, leb-true, eqb-true}
use Rattle.std.proofs.lemmas.Bool.{eqb-false}
use Rattle.bits.specs.Language.{no, pick, Bits, P, give, refuse, field, within, ◌>>=◌, run, bit, skip, each, past_payload, past_declared}
use Rattle.bits.specs.Bytes.{bit_lt}
use Rattle.bits.specs.Steps.{give_no, refuse_no, bind_no}
use Rattle.bits.specs.Laws.{local, numbered}
use Rattle.bits.specs.ReachedLaws.{field_past, element-past}
use Rattle.bits.specs.Size.{size_from}
use Rattle.bits.specs.Ensures.{ensured, e-give, e-bits, e-bind, e-any, e-then, e-pick, e_if}
use Rattle.bits.specs.Terms.{Says, Ensures}
use Rattle.oamd.specs.declared.Programme.{Programme}
use Rattle.oamd.specs.Programme.{has_reserved, bed_assignment, bed_instances, intermediate_spatial_format, num_dynamic_objects, reserved_data, program_assignment}
use Rattle.oamd.specs.Element.{framed, State, oa_element_md, elements}
use Rattle.oamd.specs.Answer.{missing_of}
use Rattle.oamd.specs.Payload.{oa_md_version, object_count, oa_element_count, header, object_audio_metadata_payload}
use Rattle.demands.specs.Terms.{parsed}
use Rattle.demands.specs.Lemmas.Limits.{carried_le}
use Rattle.demands.specs.Lemmas.Missing.{own, parsed-lacks, missing_none, missing_is}

-- the widest is an element whose size is five groups F
abbrev pub widest : ℕ
widest = 8947840

-- What p holds to its own end is at most n bits wide, whatever its steps hand on: its fields, and the declared ends of its elements. What stands in
-- an element is held to another end.
unfoldable Narrow : {A : Type 0} → ℕ → P A → Type 0
Narrow n (give a) = Unit {0}
Narrow n (refuse r back) = Unit {0}
Narrow n (field w f) = w ≤ n
Narrow n (within w back p) = w ≤ n
Narrow n (p >>= k) = Narrow n p × Ensures p (λ a. Narrow n (k a))

-- such a reader, refused for passing that end, lacks at most n bits
few : {A : Type 0} (n : ℕ) (p : P A) (b : Bits) → ((i : ℕ) → b i < 2) → (at e o : ℕ) {pl m : ℕ} → Narrow n p → Says p (λ r. r ≡ o → ⊥)
    → (past_declared ≡ o → ⊥) → run p b at e o ≡ no o pl m → at ≤ e → m ≤ n
unfolding Narrow Says
few n (give a) b bin at e o w s d h le = absurd (give_no a b at e o h)
few n (refuse i back) b bin at e o w s d h le = absurd (s (sym (refuse_no i back b at e o h).0))
few n (field i f) b bin at e o w s d h le = let x = field_past i f b at e o h in omega arith
few n (within i back p) b bin at e o w s d h le =
    element-past i back p b at e o h
    (λ l x. absurd (numbered p (λ r. r ≡ o → ⊥) b at (at + i) past_declared s d d x refl))
    (λ x. omega arith)
few n (p >>= k) b bin at e o w s d h le =
    bind_no p k b at e o h
    (λ x. few n p b bin at e o w.0 s.0 d x le)
    (λ a mid x y. few n (k a) b bin mid e o (ensured p _ w.1 b bin at e o x) (s.1 a) d y (local p b at e o x le).fits)

-- a rule for each step
narrow-give : {A : Type 0} (n : ℕ) (a : A) → Narrow n (give a)
unfolding Narrow
narrow-give n a = tt

narrow-refuse : (A : Type 0) (n r back : ℕ) → Narrow {A = A} n (refuse r back)
unfolding Narrow
narrow-refuse A n r back = tt

-- a field of a fixed width
narrow-field : {A : Type 0} (w : ℕ) (f : List ℕ → A) → leb w 128 ≡ true → Narrow widest (field w f)
unfolding Narrow
narrow-field w f h = let l = leb-true w 128 h in omega arith

-- what may hang on the value that was read, and what does not
narrow-bind : {A B : Type 0} (n : ℕ) (p : P A) (k : A → P B) → Narrow n p → Ensures p (λ a. Narrow n (k a)) → Narrow n (p >>= k)
unfolding Narrow
narrow-bind n p k x y = (x, y)

narrow-then : {A B : Type 0} (n : ℕ) (p : P A) (k : A → P B) → Narrow n p → ((a : A) → Narrow n (k a)) → Narrow n (p >>= k)
narrow-then n p k x y = narrow-bind n p k x (e-any p _ y)

narrow-pick : {A : Type 0} (n : ℕ) (t : Bool) (p q : P A) → Narrow n p → Narrow n q → Narrow n (pick t p q)
narrow-pick n true p q x y = x
narrow-pick n false p q x y = y

narrow-each : {X A : Type 0} (n : ℕ) (f : X → P A) (xs : List X) → ((x : X) → Narrow n (f x)) → Narrow n (each f xs)
unfolding each
narrow-each n f [] h = narrow-give n _
narrow-each n f (x ∷ xs) h = narrow-then n _ _ (h x) λ a. narrow-then n _ _ (narrow-each n f xs h) λ rest. narrow-give n _

computed : {A : Type 0} {a : A} → a ≡ a
computed = refl

ruleset narrow = (narrow-give, narrow-refuse, narrow-field, narrow-then, narrow-pick, narrow-each, computed)

-- ---- the size

-- what k more groups behind the value v can make of it
abbrev most : ℕ → ℕ → ℕ
most zero v = v + 15
most (suc k) v = most k ((v + 15) * 16 + 16)

most_least : (k v : ℕ) → v + 15 ≤ most k v
most_least zero v = omega arith
most_least (suc k) v = let h = most_least k ((v + 15) * 16 + 16) in omega arith

size_most : (k v u g n : ℕ) → v ≤ u → most k u ≤ n → Ensures (size_from k v g) (λ z. z.value ≤ n)
unfolding size_from
size_most zero v u g n l h =
    e-bind _ _ _ (e-bits 4 _ λ read a.
    e-bind _ _ _ (e-any _ _ λ more.
    e-give _ _ (omega arith)))
size_most (suc k) v u g n l h =
    let least = most_least k ((u + 15) * 16 + 16) in
    e-bind _ _ _ (e-bits 4 _ λ read a.
    e-bind _ _ _ (e-any _ _ λ more.
    e-pick (eqb more 0) _ _ _ (λ q. e-give _ _ (omega arith)) (λ q. size_most k _ ((u + 15) * 16 + 16) (suc g) n (omega arith) h)))

-- ---- the payload's reader

size-narrow : (k v g : ℕ) → Narrow widest (size_from k v g)
unfolding size_from
size-narrow zero v g = search narrow depth 12
size-narrow (suc k) v g =
    let ih = size-narrow k in
    search (narrow, ih) depth 12

element-narrow : (p : Programme) (alternate : ℕ) (st : State) → Narrow widest (oa_element_md p alternate st)
unfolding Narrow oa_element_md framed
element-narrow p alternate st =
    (omega arith, e-any _ _ λ id. (size-narrow 4 0 0, e-then _ _ _ (size_most 4 0 0 0 1118479 (omega arith) (omega arith)) λ z l. omega arith))

elements-narrow : (p : Programme) (alternate i : ℕ) (st : State) → Narrow widest (elements p alternate i st)
unfolding elements
elements-narrow p alternate zero st = narrow-give _ _
elements-narrow p alternate (suc i) st = narrow-then _ _ _ (element-narrow p alternate st) (λ st. elements-narrow p alternate i st)

bed-narrow : Narrow widest bed_assignment
unfolding bed_assignment
bed-narrow = search narrow depth 12

beds-narrow : (content : ℕ) → Narrow widest (bed_instances content)
unfolding bed_instances
beds-narrow content = search (narrow, bed-narrow) depth 12

isf-narrow : (content : ℕ) → Narrow widest (intermediate_spatial_format content)
unfolding intermediate_spatial_format
isf-narrow content = search narrow depth 12

dynamics-narrow : (content : ℕ) → Narrow widest (num_dynamic_objects content)
unfolding num_dynamic_objects
dynamics-narrow content = search narrow depth 12

-- a run of up to 16 bytes
run-narrow : (size : ℕ) → size ≤ 15 → Narrow widest (skip (8 * (size + 1)))
unfolding Narrow
run-narrow size h = omega arith

reserved-narrow : (content : ℕ) → Narrow widest (reserved_data content)
unfolding reserved_data
reserved-narrow content =
    narrow-bind widest _ _ (search narrow) (e_if (has_reserved content) 4 _ λ size l z.
    let most = carried_le (has_reserved content) size 15 (λ q. let i = l q in omega arith) z in
    narrow-pick widest (has_reserved content) _ _ (run-narrow size most) (narrow-give _ 0))

assignment-narrow : (objects : ℕ) → Narrow widest (program_assignment objects)
unfolding program_assignment
assignment-narrow objects = search (narrow, beds-narrow, isf-narrow, dynamics-narrow, reserved-narrow) depth 12

version-narrow : Narrow widest oa_md_version
unfolding oa_md_version
version-narrow = search narrow depth 12

count-narrow : Narrow widest object_count
unfolding object_count
count-narrow = search narrow depth 12

many-narrow : Narrow widest oa_element_count
unfolding oa_element_count
many-narrow = search narrow depth 12

header-narrow : Narrow widest header
unfolding header
header-narrow = search (narrow, version-narrow, count-narrow, assignment-narrow) depth 12

payload-narrow : Narrow widest object_audio_metadata_payload
unfolding object_audio_metadata_payload
payload-narrow = search (narrow, header-narrow, many-narrow, elements-narrow) depth 12

pub parsed_most : (s : List ℕ) {place m : ℕ} → parsed s ≡ no past_payload place m → m ≤ widest
parsed_most s h =
    few widest object_audio_metadata_payload (bit s) (bit_lt s) 0 (8 * length s) past_payload payload-narrow own (λ z. omega arith) h (omega arith)

-- so the missing bits are answered as they are, and there is one at least where the payload ends early
pub missing_all : (s : List ℕ) {place m : ℕ} → parsed s ≡ no past_payload place m → missing_of past_payload m ≡ m
missing_all s {m = m} h = missing_is m (let most = parsed_most s h in omega arith)

pub missing-few : (s : List ℕ) {r place m : ℕ} → parsed s ≡ no r place m → missing_of r m ≤ widest
missing-few s {r} {place} {m} h = go (eqb r past_payload) refl
  where
    go : (t : Bool) → eqb r past_payload ≡ t → missing_of r m ≤ widest
    go true q =
        let e = eqb-true r past_payload q in
        let early = subst (λ (i : ℕ). parsed s ≡ no i place m) e h in
        rw (e, missing_all s early) (parsed_most s early)
    go false q = rw (missing_none r m (eqb-false r past_payload q)) (omega arith)

pub some-missing : (s : List ℕ) {r place m : ℕ} → parsed s ≡ no r place m → r ≡ past_payload → 1 ≤ missing_of r m
some-missing s {place = place} {m = m} h e =
    let early = subst (λ (i : ℕ). parsed s ≡ no i place m) e h in
    rw (e, missing_all s early) (parsed-lacks s early)
