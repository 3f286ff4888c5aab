-- The payload's reader, refused with 2, 5 or 8: where, and back from there.
use Rattle.std.specs.Prelude.{◌≡◌, refl, true, List, ℕ, ◌+◌, ◌-◌, ◌*◌, ◌≤◌, length}
use Rattle.std.proofs.Common.{ap, ◌∙◌, inl, inr, ⊎_elim, arith}
use Rattle.bits.specs.declared.Size.{Size}
use Rattle.bits.specs.Language.{ok, no, Bits, P, run, bit, number, slice, past_payload, past_declared}
use Rattle.bits.specs.Steps.{bind_ok, bind_is, field_ok, field_is}
use Rattle.bits.specs.Size.{size_from, variable_bits_max}
use Rattle.bits.specs.Reached.{Comes, here, field-passes, size-passes}
use Rattle.bits.specs.ReachedLaws.{comes-on, refused_there, stop-refuses, Halts, at_field, at-marked, of-own, halts}
use Rattle.oamd.specs.declared.Kind.{Kind}
use Rattle.oamd.specs.declared.Programme.{Programme}
use Rattle.oamd.specs.Reserved.{Field, unreserved}
use Rattle.oamd.specs.Element.{declared_length, back_to_id, framed, State, fields, oa_element, oa_element_md}
use Rattle.oamd.specs.Payload.{object_audio_metadata_payload}
use Rattle.demands.specs.Terms.{runs, parsed}
use Rattle.demands.specs.Stops.{ComesTo, Sized, declared_end, PassesPayload, by_field, by_size, missing_for, PassesElement, bits_in, CarriesReserved}
use Rattle.demands.specs.Skeleton.{is_known}
use Rattle.demands.specs.Lemmas.Codes.{in_table, by-test, widths}
use Rattle.demands.specs.Lemmas.Frame.{size-goes}
use Rattle.demands.specs.Lemmas.Plain.{fields-plain, payload-plain}
use Rattle.demands.specs.Lemmas.Passing.{Passes, Reserves, limited-refused, limited-refuses, InElement, in_field, by_end, in_body, element-refused, InKnown, of-order, in-fields, body_refused}

-- in a known element the fields with reserved values are marked; outside of the elements these and the elements
pub data Limited : (A : Type 0) → P A → Type 1 where
  limited : (f : Field) → Limited ℕ (unreserved f)

data Marked : (A : Type 0) → P A → Type 1 where
  limits : (f : Field) → Marked ℕ (unreserved f)
  element : (p : Programme) (alternate : ℕ) (st : State) → Marked State (oa_element_md p alternate st)

-- the other numbers
record Own (r : ℕ) : Type 0 where
  pub two : r ≡ 2 → ⊥
  pub five : r ≡ 5 → ⊥
  pub eight : r ≡ 8 → ⊥

-- where the payload's reader is refused with a number, and at a place
data Where (s : List ℕ) (r place : ℕ) : Type 1 where
  early : r ≡ past_payload → PassesPayload s place → Where s r place
  past : r ≡ past_declared → PassesElement s place → Where s r place
  coded : r ≡ 5 → CarriesReserved s place → Where s r place
  other : Own r → Where s r place

-- for a field that is held to the payload's end
in-payload : (s : List ℕ) {r place : ℕ} → Passes object_audio_metadata_payload (bit s) 0 (8 * length s) past_payload r place → Where s r place
in-payload s x = early x.over (by_field x.width x.value x.comes x.passes)

-- for a value that is reserved
is-coded : (s : List ℕ) {A : Type 0} {p : P A} {at e o r place : ℕ} → Comes object_audio_metadata_payload (bit s) 0 (8 * length s) past_payload p at e o
    → (r ≡ 5) × Reserves p (bit s) at e o place → Where s r place
is-coded s {e = e} {o = o} {place = place} c (h, x) =
    let v = in_table x.field _ x.reserved in
    coded h (record {
      field = x.field;
      end = e;
      over = o;
      comes = comes-on c x.comes;
      fits = rw (← widths x.field) x.fits;
      reserved = rw (← widths x.field) v;
    })

-- in the fields of a known element
fields-refused : (s : List ℕ) (id : ℕ) (x : Sized s id) (k : Kind) → is_known k ≡ true → (at : ℕ)
    → Comes (oa_element_md x.programme x.alternate x.state) (bit s) id (8 * length s) past_payload (fields x.programme k x.state.known) at
    (declared_end x) past_declared
    → {r place m : ℕ} → run (fields x.programme k x.state.known) (bit s) at (declared_end x) past_declared ≡ no r place m → Where s r place
fields-refused s id x k known at c {r} {place} {m} h =
    go (halts (bit s) at (declared_end x) past_declared (fields-plain Limited Own limited x.programme k x.state.known) h)
  where
    passing : Passes (fields x.programme k x.state.known) (bit s) at (declared_end x) past_declared r place → Where s r place
    passing y = past y.over (record {
      id = id;
      element = x;
      kind = k;
      known = known;
      at = at;
      inside = c;
      Value = y.Value;
      width = y.width;
      value = y.value;
      comes = y.comes;
      passes = y.passes;
    })

    go : Halts Limited Own (fields x.programme k x.state.known) (bit s) at (declared_end x) past_declared r place m → Where s r place
    go (at_field {B = B} {w = w} {f = f} d l i) = passing (record { Value = B; width = w; value = f; comes = d; passes = l; over = i })
    go (at-marked (limited f) d z) = ⊎_elim passing (is-coded s (comes-on x.comes c)) (limited-refused f (bit s) d z)
    go (of-own y) = other y

-- in an element
element_where : (s : List ℕ) (p : Programme) (alternate : ℕ) (st : State) (id : ℕ) → ComesTo s (oa_element_md p alternate st) id → {r place m : ℕ}
    → run (oa_element_md p alternate st) (bit s) id (8 * length s) past_payload ≡ no r place m → Where s r place
unfolding oa_element_md
element_where s p alternate st id c {r} {place} {m} h = go (element-refused alternate _ (bit s) id (8 * length s) past_payload h)
  where
    sized : (size : Size) (to : ℕ) → runs variable_bits_max s (id + 4) ≡ ok size to → Sized s id
    sized size to z = record { programme = p; alternate = alternate; state = st; comes = c; size = size; behind = to; sized = z }

    body : (size : Size) (to : ℕ) (z : runs variable_bits_max s (id + 4) ≡ ok size to) (k : Kind) (at : ℕ)
        → Comes (oa_element_md p alternate st) (bit s) id (8 * length s) past_payload (oa_element p (back_to_id alternate size) st k) at (to + declared_length size)
        past_declared
        → InKnown p (back_to_id alternate size) st k (oa_element p (back_to_id alternate size) st k) (bit s) at (to + declared_length size) past_declared r place m → Where s r place
    body size to z k at d (of-order known (inl x) i) = other (omega arith)
    body size to z k at d (of-order known (inr x) i) = other (omega arith)
    body size to z k at d (in-fields known at' d' x) = fields-refused s id (sized size to z) k known at' (comes-on d d') x

    go : InElement alternate (λ k size. oa_element p (back_to_id alternate size) st k) (bit s) id (8 * length s) past_payload r place m → Where s r place
    go (in_field x) = early x.over (by_field x.width x.value (comes-on c x.comes) x.passes)
    go (by_end size to z l i j) = early i (by_size id (sized size to z) j l)
    go (in_body size to k at z d x) =
        body size to z k at d (body_refused p (back_to_id alternate size) st k (bit s) at (to + declared_length size) past_declared x)

-- in the payload
where-refused : (s : List ℕ) {r place m : ℕ} → parsed s ≡ no r place m → Where s r place
where-refused s {r} {place} {m} h =
    go (halts (bit s) 0 (8 * length s) past_payload (payload-plain Marked Own limits element (omega arith) (omega arith)) h)
  where
    go : Halts Marked Own object_audio_metadata_payload (bit s) 0 (8 * length s) past_payload r place m → Where s r place
    go (at_field {B = B} {w = w} {f = f} c l i) = early i (by_field w f c l)
    go (at-marked (limits f) c x) = ⊎_elim (in-payload s) (is-coded s here) (limited-refused f (bit s) c x)
    go (at-marked {to = id} (element p alternate st) c x) = element_where s p alternate st id c x
    go (of-own x) = other x

-- ---- by the number

pub early-end_of : (s : List ℕ) {place m : ℕ} → parsed s ≡ no 2 place m → PassesPayload s place
early-end_of s {place} h = go (where-refused s h)
  where
    go : Where s 2 place → PassesPayload s place
    go (early i x) = x
    go (past i x) = absurd (omega arith)
    go (coded i x) = absurd (omega arith)
    go (other x) = absurd (x.two refl)

pub past-element_of : (s : List ℕ) {place m : ℕ} → parsed s ≡ no 8 place m → PassesElement s place
past-element_of s {place} h = go (where-refused s h)
  where
    go : Where s 8 place → PassesElement s place
    go (early i x) = absurd (omega arith)
    go (past i x) = x
    go (coded i x) = absurd (omega arith)
    go (other x) = absurd (x.eight refl)

pub reserved_of : (s : List ℕ) {place m : ℕ} → parsed s ≡ no 5 place m → CarriesReserved s place
reserved_of s {place} h = go (where-refused s h)
  where
    go : Where s 5 place → CarriesReserved s place
    go (early i x) = absurd (omega arith)
    go (past i x) = absurd (omega arith)
    go (coded i x) = x
    go (other x) = absurd (x.five refl)

-- ---- and back

-- a size that is read begins within the end
size-within : (b : Bits) (at e o : ℕ) {z : Size} {to : ℕ} → run variable_bits_max b at e o ≡ ok z to → at ≤ e
unfolding size_from
size-within b at e o h = bind_ok _ _ b at e o h λ read p hr h. let x = field_ok 4 number b at e o hr in omega arith

pub early_end_is : (s : List ℕ) {place : ℕ} (x : PassesPayload s place) → parsed s ≡ no 2 place (missing_for x)
unfolding oa_element_md framed
early_end_is s (by_field w f c l) = refused_there c (stop-refuses (bit s) (field-passes l))
early_end_is s (by_size id x j l) =
    let b = bit s in
    let e : ℕ = 8 * length s in
    let goes = size-goes 4 0 0 b (id + 4) e past_payload x.sized in
    let starts = size-within b (id + 4) e past_payload x.sized in
    refused_there x.comes
    (bind_is _ _ b id e past_payload (field_is 4 number b id e past_payload starts) ∙ bind_is _ _ b (id + 4) e past_payload x.sized
    ∙ stop-refuses b (size-passes l) ∙ ap (λ (pl : ℕ). no 2 pl (declared_end x - e)) (omega arith))

pub past-element_is : (s : List ℕ) {place : ℕ} → PassesElement s place → (m : ℕ) × (parsed s ≡ no 8 place m)
past-element_is s x = (_, refused_there (comes-on x.element.comes (comes-on x.inside x.comes)) (stop-refuses (bit s) (field-passes x.passes)))

pub reserved_is : (s : List ℕ) {place : ℕ} → CarriesReserved s place → parsed s ≡ no 5 place 0
reserved_is s {place} x =
    let v : ℕ = number (slice (bit s) place (bits_in x.field)) in
    refused_there x.comes
    (limited-refuses x.field (bit s) place x.end x.over (rw (widths x.field) x.fits) (rw (widths x.field) (by-test x.field v x.reserved)))
