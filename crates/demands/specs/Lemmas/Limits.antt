-- How many objects, blocks and elements a payload can have, whatever its content is.
use Rattle.std.specs.Prelude.{◌≡◌, refl, Bool, true, false, not, List, [], ◌∷◌, ℕ, zero, suc, ◌+◌, ◌*◌, ◌≤◌, eqb, length}
use Rattle.std.proofs.Common.{ap, ◌∙◌, arith}
use Rattle.std.proofs.Math.Option.{Option, none, some}
use Rattle.bits.specs.Language.{ok, bit, from, past_payload}
use Rattle.bits.specs.Bytes.{bit_lt}
use Rattle.bits.specs.Laws.{length_from}
use Rattle.bits.specs.Ensures.{ensured, e-give, e-bits, e-bind, e-any, e-then, e-pass, e_if, e-within, e-each}
use Rattle.bits.specs.Terms.{Ensures, All}
use Rattle.oamd.specs.declared.Kind.{Kind}
use Rattle.oamd.specs.declared.Kind.TheVariants.{Unknown, Object, Trim, Extended}
use Rattle.oamd.specs.declared.Programme.{Programme}
use Rattle.oamd.specs.declared.Shares.{Shares}
use Rattle.oamd.specs.Tables.{most_elements, most_objects, most_blocks}
use Rattle.oamd.specs.Programme.{program_assignment, agrees}
use Rattle.oamd.specs.Timing.{block_update_info, md_update_info}
use Rattle.oamd.specs.ObjectElement.{ObjectElement, object_element}
use Rattle.oamd.specs.Element.{kind, framed, Known, is_second, is_early, fields, State, pass_over, read_known, oa_element, oa_element_md, elements}
use Rattle.oamd.specs.Payload.{object_count, oa_element_count, header, Payload, object_audio_metadata_payload}
use Rattle.demands.specs.Terms.{parsed}
use Rattle.demands.specs.Lemmas.Elements.{by_kind}

-- a field that is there only if the test holds
pub carried_le : (t : Bool) (v n : ℕ) → (t ≡ true → v ≤ n) → (t ≡ false → 0 ≡ v) → v ≤ n
carried_le true v n f g = f refl
carried_le false v n f g = let z = g refl in omega arith

-- ---- 5.5.2: the counts

count-limits : Ensures object_count (λ n. (1 ≤ n) × (n ≤ most_objects))
unfolding object_count
count-limits =
    e-bind _ _ _ (e-bits 5 _ λ n a.
    e-bind _ _ _ (e_if (eqb n 31) 7 _ λ m b b'.
    let more = carried_le (eqb n 31) m 127 (λ q. let l = b q in omega arith) b' in
    e-give _ _ (omega arith)))

element-count-limits : Ensures oa_element_count (λ n. n ≤ most_elements)
unfolding oa_element_count
element-count-limits =
    e-bind _ _ _ (e-bits 4 _ λ n a.
    e-bind _ _ _ (e_if (eqb n 15) 5 _ λ m b b'.
    let more = carried_le (eqb n 15) m 31 (λ q. let l = b q in omega arith) b' in
    e-give _ _ (omega arith)))

assignment-keeps : (n : ℕ) → Ensures (program_assignment n) (λ p. p.objects ≡ n)
unfolding program_assignment
assignment-keeps n =
    e-bind _ _ _ (e-any _ _ λ dynonly.
    e-bind _ _ _ (e-any _ _ λ lfe.
    e-bind _ _ _ (e-any _ _ λ content.
    e-bind _ _ _ (e-any _ _ λ beds.
    e-bind _ _ _ (e-any _ _ λ isf.
    e-bind _ _ _ (e-any _ _ λ dynamics.
    e-bind _ _ _ (e-any _ _ λ reserved.
    e-give _ _ refl)))))))

header-limits : Ensures header (λ h. (1 ≤ h.programme.objects) × (h.programme.objects ≤ most_objects))
unfolding header
header-limits =
    e-bind _ _ _ (e-any _ _ λ version.
    e-bind _ _ _ (e-then _ _ _ count-limits λ n l.
    e-bind _ _ _ (e-then _ _ _ (assignment-keeps n) λ p same.
    e-bind _ _ _ (e-pass (not (agrees p)) _ _ p _ λ agree.
    e-bind _ _ _ (e-any _ _ λ alternate.
    e-give _ _ (omega arith))))))

-- ---- 5.5.6: the blocks

-- 1 to 8 of an object element
pub record Blocks (e : ObjectElement) : Type 0 where
  pub some : 1 ≤ length e.timing.blocks
  pub few : length e.timing.blocks ≤ most_blocks

all_long : {X A : Type 0} (xs : List X) (vs : List A) → All (λ x a. Unit {0}) xs vs → length vs ≡ length xs
all_long [] [] h = refl
all_long [] (a ∷ vs) h = absurd h
all_long (x ∷ xs) [] h = absurd h
all_long (x ∷ xs) (a ∷ vs) h = ap suc (all_long xs vs h.1)

object-limits : (n : ℕ) (s : Shares) → Ensures (object_element n s) Blocks
unfolding object_element md_update_info
object-limits n s =
    e-bind _ _ _ (e-bind _ _ _ (e-any _ _ λ offset.
    e-bind _ _ _ (e-bits 3 _ λ m l.
    e-bind _ _ _ (e-then _ _ _ (e-each (λ blk. block_update_info) (λ i u. Unit {0}) (λ i. e-any _ _ λ u. tt) (from 0 (m + 1))) λ blocks h.
    let long = all_long (from 0 (m + 1)) blocks h ∙ length_from 0 (m + 1) in
    e-give _ _ (
    e-bind _ _ _ (e-any _ _ λ flag.
    e-bind _ _ _ (e-any _ _ λ reserved.
    e-bind _ _ _ (e-any _ _ λ objects.
    e-give _ _ (record { some = omega arith; few = omega arith })))))))))

-- ---- 5.5.4: the elements

-- an object element, if it has been read, has so many
abbrev pub Blocked : Option ObjectElement → Type 0
Blocked none = Unit {0}
Blocked (some e) = Blocks e

fields-limits : (p : Programme) (k : Kind) (known : Known) → Blocked known.object → Ensures (fields p k known) (λ known. Blocked known.object)
unfolding fields
fields-limits p Unknown known h = e-give _ _ h
fields-limits p Object known h = e-bind _ _ _ (e-then _ _ _ (object-limits p.objects _) λ e b. e-give _ _ b)
fields-limits p Trim known h = e-bind _ _ _ (e-any _ _ λ t. e-give _ _ h)
fields-limits p Extended known h = e-bind _ _ _ (e-any _ _ λ x. e-give _ _ h)

-- with at most u unknown ones among them
pub record Counted (u : ℕ) (st : State) : Type 0 where
  pub object : Blocked st.known.object
  pub unknown : st.unknown ≤ u

inside-limits : (p : Programme) (back u : ℕ) (st : State) → Counted u st → (k : Kind) → Ensures (oa_element p back st k) (Counted (suc u))
unfolding pass_over read_known
inside-limits p back u st h =
    let n = h.unknown in
    by_kind p back st (λ k x. Ensures x (Counted (suc u))) (e-give _ _ (record { object = h.object; unknown = omega arith }))
    (λ k is. e-bind _ _ _ (e-pass (is_second k st.known) _ _ k _ λ first.
    e-bind _ _ _ (e-pass (is_early k st.known) _ _ k _ λ timely.
    e-bind _ _ _ (e-then _ _ _ (fields-limits p k st.known h.object) λ known b.
    e-give _ _ (record { object = b; unknown = omega arith })))))

elements-limits : (p : Programme) (alternate n u : ℕ) (st : State) → Counted u st → Ensures (elements p alternate n st) (Counted (u + n))
unfolding elements oa_element_md framed
elements-limits p alternate zero u st h = let n = h.unknown in e-give _ _ (record { object = h.object; unknown = omega arith })
elements-limits p alternate (suc n) u st h =
    e-bind _ _ _ (e-bind _ _ _ (e-any _ _ λ id. e-bind _ _ _ (e-any _ _ λ size.
    e-within _ _ _ _ (e-bind _ _ _ (e-any _ _ λ other. e-bind _ _ _ (e-any _ _ λ discard.
    e-then _ _ _ (inside-limits p _ u st h (kind id other)) λ next c.
    let e : suc u + n ≡ u + suc n = omega arith in
    rw (← e) (elements-limits p alternate n (suc u) next c)))))))

-- ---- the payload

pub record Limits (q : Payload) : Type 0 where
  pub some : 1 ≤ q.programme.objects
  pub few : q.programme.objects ≤ most_objects
  pub object : Blocked q.known.object
  pub unknown : q.unknown ≤ most_elements

payload-limits : Ensures object_audio_metadata_payload Limits
unfolding object_audio_metadata_payload
payload-limits =
    e-bind _ _ _ (e-then _ _ _ header-limits λ head l.
    e-bind _ _ _ (e-then _ _ _ element-count-limits λ n m.
    e-bind _ _ _ (e-then _ _ _ (elements-limits head.programme head.alternate n 0 _ (record { object = tt; unknown = omega arith })) λ st c.
    let u = c.unknown in
    e-give _ _ (record { some = l.0; few = l.1; object = c.object; unknown = omega arith }))))

-- of every payload that the reader accepts
pub limits : (s : List ℕ) {q : Payload} {to : ℕ} → parsed s ≡ ok q to → Limits q
limits s h = ensured object_audio_metadata_payload Limits payload-limits (bit s) (bit_lt s) 0 (8 * length s) past_payload h
