-- Where the refusal of an element lies, and what holds of every pass over elements.
use Rattle.std.specs.Prelude.{◌≡◌, refl, true}
use Rattle.std.proofs.Common.{sym, ap, ◌∙◌, subst₂, inl, inr, ⊎_elim, arith}
use Prim.Native.Nat.{ℕ, zero, suc, ◌+◌, ◌≤◌, ◌<◌}
use Rattle.bits.specs.declared.Refusal.TheVariants.{Reserved}
use Rattle.bits.specs.Refusals.{number_of}
use Rattle.bits.specs.Language.{ok, no, Bits, P, run, and_then, past_payload, past_declared}
use Rattle.bits.specs.Steps.{value, next, give_is}
use Rattle.bits.specs.Laws.{local}
use Rattle.bits.specs.Reached.{Comes, here, inside, first, behind, Plain}
use Rattle.bits.specs.ReachedLaws.{Halts, at_field, at-marked, of-own, halts}
use Rattle.oamd.specs.declared.Frame.{Frame}
use Rattle.oamd.specs.declared.Kind.{Kind}
use Rattle.oamd.specs.declared.Programme.{Programme}
use Rattle.oamd.specs.Reserved.{Field, IntermediateSpatialFormatIdx, SampleOffsetCode, ZoneConstraintsIdx, ObjectSizeIdx, WarpMode, GlobalTrimMode, TrimSurround, TrimHeight}
use Rattle.oamd.specs.Reserved.{ObjectDivMode, ObjectDivCode, width_of}
use Rattle.oamd.specs.Element.{back_to_id, frame, State, Known, fields, oa_element, oa_element_md}
use Rattle.oamd.specs.Sift.{Sifting, passed, stopped, dropping, gone_at, sift}
use Rattle.demands.specs.Skeleton.{is_known}
use Rattle.demands.specs.Lemmas.Frame.{body_at, end_at, frame-of}
use Rattle.demands.specs.Lemmas.Order.{then_no}
use Rattle.demands.specs.Lemmas.Plain.{fields-plain}
use Rattle.demands.specs.Lemmas.Passing.{Passes, Reserves, limited-refused, InKnown, of-order, in-fields, body_refused}
use Rattle.demands.specs.Lemmas.Stopping.{Limited, limited}
use Rattle.salvaging.specs.Promises.{Lies}
use Rattle.salvaging.specs.Lemmas.Turns.{sift_next}

-- what a reading comes to lies between its start and the end that it is then held to
pub comes-within : {b : Bits} {B : Type 0} {q : P B} {to end over : ℕ} {A : Type 0} {p : P A} {at e o : ℕ} → Comes p b at e o q to end over → at ≤ e → (at ≤ to) × (to ≤ end)
comes-within here l = omega arith
comes-within (inside f x) l = comes-within x (omega arith)
comes-within (first x) l = comes-within x l
comes-within (behind h x) l =
    let read = local _ _ _ _ _ h l in
    let rest = comes-within x read.fits in
    omega (arith, read.ends)

-- ---- a reader that is plain but for fields with reserved values

-- it is refused at a field that passes its end, at one whose value is reserved, or with a number of its own
pub data Told (Q : ℕ → Type 0) (at e o r pl : ℕ) : Type 0 where
  past : r ≡ o → at ≤ pl → pl ≤ e → Told Q at e o r pl
  coded : r ≡ number_of Reserved → at ≤ pl → pl < e → Told Q at e o r pl
  own : Q r → Told Q at e o r pl

-- such a field has two bits or more
wide : (f : Field) → 2 ≤ width_of f
wide IntermediateSpatialFormatIdx = omega arith
wide SampleOffsetCode = omega arith
wide ZoneConstraintsIdx = omega arith
wide ObjectSizeIdx = omega arith
wide WarpMode = omega arith
wide GlobalTrimMode = omega arith
wide TrimSurround = omega arith
wide TrimHeight = omega arith
wide ObjectDivMode = omega arith
wide ObjectDivCode = omega arith

pub told : {Q : ℕ → Type 0} {A : Type 0} {p : P A} (b : Bits) (at e o : ℕ) {r pl m : ℕ} → Plain Limited Q A p → run p b at e o ≡ no r pl m → at ≤ e
    → Told Q at e o r pl
told {Q} {A} {p} b at e o {r} {pl} {m} x h le = go (halts b at e o x h)
  where
    go : Halts Limited Q p b at e o r pl m → Told Q at e o r pl
    go (at_field c l i) = let y = comes-within c le in past i y.0 y.1
    go (at-marked (limited f) c z) =
        ⊎_elim (λ (x : Passes p b at e o r pl). let y = comes-within x.comes le in past x.over y.0 y.1)
        (λ (x : (r ≡ 5) × Reserves p b at e o pl).
        let y = comes-within x.1.comes le in
        coded x.0 y.0 (omega (arith, x.1.fits, wide x.1.field))) (limited-refused f b c z)
    go (of-own y) = own y

-- ---- frames and elements

-- in the fields, which begin behind the first bit
fields_lie : (p : Programme) (k : Kind) (known : Known) (b : Bits) (from at e : ℕ) {r pl m : ℕ} → from < at → at ≤ e
    → run (fields p k known) b at e past_declared ≡ no r pl m → Lies from e r pl
fields_lie p k known b from at e {r} {pl} {m} l le h = go (told b at e past_declared (fields-plain Limited (λ r. ⊥) limited p k known) h le)
  where
    go : Told (λ r. ⊥) at e past_declared r pl → Lies from e r pl
    go (past i f g) = omega arith
    go (coded i f g) = omega arith
    go (own y) = absurd y

-- the element that stands in a whole frame, refused: its kind is known
pub element-lies : (p : Programme) (alternate : ℕ) (st : State) (b : Bits) (at e : ℕ) {r pl m to : ℕ} {f : Frame}
    → run (oa_element_md p alternate st) b at e past_payload ≡ no r pl m
    → run (frame alternate) b at e past_payload ≡ ok f to → (is_known f.kind ≡ true) × Lies at to r pl
unfolding oa_element_md
element-lies p alternate st b at e {r} {pl} {m} {to} {f} h w =
    let x = frame-of alternate _ b at e past_payload w in
    let mid : ℕ = body_at at alternate x.size in
    let end : ℕ = end_at at x.size in
    let is = sym w ∙ x.same _ ∙ ap (λ (y : _). and_then y (λ a to. ok a end)) (give_is _ b mid end past_declared) in
    let kind : x.kind ≡ f.kind = sym (ap (λ (f : Frame). f.kind) (value is)) in
    let goes : to ≡ end = next is in
    let inner = then_no _ (λ a. a) end (sym (x.same _) ∙ h) in
    let lies = go x.kind mid end (omega arith) x.room (back_to_id alternate x.size) refl (body_refused p _ st x.kind b mid end past_declared inner) in
    subst₂ (λ (k : Kind) (n : ℕ). (is_known k ≡ true) × Lies at n r pl) kind (sym goes) lies
  where
    go : (k : Kind) (mid to : ℕ) → at < mid → mid ≤ to → (back : ℕ) → mid ≡ at + back → InKnown p back st k (oa_element p back st k) b mid to past_declared r pl m
        → (is_known k ≡ true) × Lies at to r pl
    go k mid to l g back i (of-order known (inl y) j) = (known, omega arith)
    go k mid to l g back i (of-order known (inr y) j) = (known, omega arith)
    go k mid to l g back i (in-fields known start c y) =
        let z = comes-within c g in
        (known, fields_lie p k st.known b at start to (omega arith) z.1 y)

-- ---- a pass

-- What holds where no element is left, where the payload's end stops a pass, and behind an element that is dropped, holds of every pass.
module _ (p : Programme) (alternate : ℕ) (b : Bits) (e : ℕ) (Q : Sifting → Type 0) (over : (st : State) (at : ℕ) → Q (passed st at))
    (ends : (r pl m : ℕ) → r ≡ past_payload → Q (stopped r pl m))
    (drops : (st : State) (at to r pl m : ℕ) (f : Frame) (x : Sifting) → run (oa_element_md p alternate st) b at e past_payload ≡ no r pl m
    → run (frame alternate) b at e past_payload ≡ ok f to → Q x → Q (dropping (gone_at b at to r pl) x)) where
  pub by-sift : (n : ℕ) (st : State) (at : ℕ) → Q (sift p alternate n st b at e)
  unfolding sift
  by-sift zero st at = over st at
  by-sift (suc n) st at =
      sift_next p alternate n st b at e Q (λ st' to h. by-sift n st' to) (λ r pl m h i. ends r pl m i)
      (λ r pl m f to h w. drops st at to r pl m f _ h w (by-sift n st to))
