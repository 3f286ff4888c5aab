-- What is read of elements depends on the known ones among them alone.
use Rattle.std.specs.Prelude.{◌≡◌, refl, Bool, true, false, List, [], ◌∷◌, ◌++◌, ℕ, zero, suc, ◌+◌, ◌-◌, ◌*◌, ◌≤◌, length}
use Rattle.std.proofs.Common.{sym, ap, ◌∙◌, subst, arith}
use Rattle.std.proofs.Math.Option.{Option, none, some}
use Rattle.bits.specs.Language.{Res, ok, no, pick, Bits, slice, and_then, run, bit, past_payload, past_declared}
use Rattle.bits.specs.Steps.{value, next, and_then_ok, ok_at, bind_ok, give_ok, give_is, bind_is, field_is, slice_at, length-slice}
use Rattle.bits.specs.Laws.{local}
use Rattle.bits.specs.Writes.{listed}
use Rattle.oamd.specs.declared.Kind.{Kind}
use Rattle.oamd.specs.declared.Kind.TheVariants.{Unknown}
use Rattle.oamd.specs.declared.Programme.{Programme}
use Rattle.oamd.specs.Element.{declared_length, head_length, back_to_id, Known, nothing, is_second, is_early, fields, State, pass_over, read_known, oa_element, oa_element_md, elements}
use Rattle.oamd.specs.Payload.{Payload, object_audio_metadata_payload}
use Rattle.demands.specs.Terms.{runs, parsed}
use Rattle.demands.specs.Skeleton.{Body, body, bodies, Outline, outline_payload, is_known, known, unknowns, given, taken_out}
use Rattle.demands.specs.Lemmas.Frame.{Frame, frame-of, body_at, end_at}
use Rattle.demands.specs.Lemmas.Elements.{by_kind, Fields, fields_of, known_is}

-- ---- what elements make of what is known, by their kinds and bits alone

-- a known element is no second one and not early, and its bits hold its fields
pub record Adds (p : Programme) (k : Kind) (l : List ℕ) (before after : Known) : Type 0 where
  pub first : is_second k before ≡ false
  pub timely : is_early k before ≡ false
  pub to : ℕ
  pub ran : run (fields p k before) (listed l) 0 (length l) past_declared ≡ ok after to

-- an unknown one adds nothing
unfoldable pub Step : Programme → Kind → List ℕ → Known → Known → Type 0
Step p k l before after = pick (is_known k) (Adds p k l before after) (before ≡ after)

unfoldable pub Steps : Programme → List Body → Known → Known → Type 0
Steps p [] before after = before ≡ after
Steps p (x ∷ xs) before after = (mid : Known) × Step p x.kind x.bits before mid × Steps p xs mid after

-- only the known ones count
step-known : (p : Programme) (k : Kind) (l : List ℕ) (rest : List Body) (before mid after : Known) → Step p k l before mid → Steps p rest mid after
    → Steps p (pick (is_known k) (record { kind = k; bits = l } ∷ rest) rest) before after
unfolding Step Steps
step-known p k l rest before mid after s t = go (is_known k) refl
  where
    go : (y : Bool) → is_known k ≡ y → Steps p (pick y (record { kind = k; bits = l } ∷ rest) rest) before after
    go true e = (mid, s, t)
    go false e = subst (λ (x : Known). Steps p rest x after) (sym (rw e at s)) t

steps-known : (p : Programme) (xs : List Body) (before after : Known) → Steps p xs before after → Steps p (known xs) before after
unfolding Steps known
steps-known p [] before after h = h
steps-known p (x ∷ xs) before after h = step-known p x.kind x.bits (known xs) before h.0 after h.1 (steps-known p xs h.0 after h.2)

known_step : (p : Programme) (k : Kind) (l : List ℕ) (rest xs : List Body) (before after : Known)
    → ((mid : Known) → Steps p rest mid after → Steps p xs mid after)
    → Steps p (pick (is_known k) (record { kind = k; bits = l } ∷ rest) rest) before after → (mid : Known) × Step p k l before mid × Steps p xs mid after
unfolding Step Steps
known_step p k l rest xs before after f h = go (is_known k) refl h
  where
    go : (y : Bool) → is_known k ≡ y → Steps p (pick y (record { kind = k; bits = l } ∷ rest) rest) before after
        → (mid : Known) × Step p k l before mid × Steps p xs mid after
    go true e h = (h.0, h.1, f h.0 h.2)
    go false e h = (before, rw e refl, f before h)

known-steps : (p : Programme) (xs : List Body) (before after : Known) → Steps p (known xs) before after → Steps p xs before after
unfolding Steps known
known-steps p [] before after h = h
known-steps p (x ∷ xs) before after h =
    known_step p x.kind x.bits (known xs) xs before after (λ mid t. known-steps p xs mid after t) h

-- ---- one element: from its reader to its bits, and back

-- what stands in an accepted element
record Took (p : Programme) (k : Kind) (st st' : State) (b : Bits) (at n : ℕ) : Type 0 where
  steps : Step p k (slice b at n) st.known st'.known
  counted : st'.unknown ≡ pick (is_known k) st.unknown (suc st.unknown)

known-took : (p : Programme) (k : Kind) (st : State) (b : Bits) (at e n : ℕ) {st' : State} {to : ℕ} → at + n ≡ e → Fields p st k b at e past_declared st' to
    → Adds p k (slice b at n) st.known st'.known
known-took p k st b at e n same x =
    let end : at ≤ e = omega arith in
    let lo = local (fields p k st.known) b at e past_declared x.ran end in
    let z = length-slice b at n in
    record {
      first = x.first;
      timely = x.timely;
      to = 0 + lo.used;
      ran = lo.moved (listed (slice b at n)) 0 (length (slice b at n)) past_declared (λ i j. slice_at b at n i (omega (arith, lo.fits, lo.ends)))
          (omega (arith, lo.fits, lo.ends));
    }

took : (p : Programme) (back : ℕ) (st : State) (k : Kind) (b : Bits) (at e n : ℕ) {st' : State} {to : ℕ} → at + n ≡ e
    → run (oa_element p back st k) b at e past_declared ≡ ok st' to → Took p k st st' b at n
unfolding pass_over Step
took p back st k b at e n {st'} {to} same h =
    by_kind p back st (λ k x. run x b at e past_declared ≡ ok st' to → Took p k st st' b at n)
    (λ h.
    let z = (give_ok _ b at e past_declared h).0 in
    record { steps = ap (λ (x : State). x.known) z; counted = ap (λ (x : State). x.unknown) (sym z) })
    (λ k known h.
    let x = fields_of p back st k b at e past_declared h in
    record { steps = rw known (known-took p k st b at e n same x); counted = rw known x.unknown }) k h

known-takes : (p : Programme) (back : ℕ) (st : State) (k : Kind) (b : Bits) (at e n : ℕ) {after : Known} → at + n ≡ e
    → Adds p k (slice b at n) st.known after
    → (to : ℕ) × (run (read_known p back st k) b at e past_declared ≡ ok (record { known = after; unknown = st.unknown }) to)
known-takes p back st k b at e n same x =
    let z = length-slice b at n in
    let end : 0 ≤ length (slice b at n) = omega arith in
    let lo = local (fields p k st.known) (listed (slice b at n)) 0 (length (slice b at n)) past_declared x.ran end in (
      at + lo.used,
      known_is p back st k b at e past_declared x.first x.timely
          (lo.moved b at e past_declared (λ i j. sym (slice_at b at n i (omega (arith, lo.fits, lo.ends)))) (omega (arith, lo.fits, lo.ends))),
    )

takes : (p : Programme) (back : ℕ) (st : State) (k : Kind) (b : Bits) (at e n : ℕ) {after : Known} → at + n ≡ e
    → Step p k (slice b at n) st.known after
    → (to : ℕ) × (run (oa_element p back st k) b at e past_declared ≡ ok (record { known = after; unknown = pick (is_known k) st.unknown (suc st.unknown) }) to)
unfolding pass_over Step
takes p back st k b at e n {after} same s =
    by_kind p back st
    (λ k x.
    Step p k (slice b at n) st.known after
    → (to : ℕ) × (run x b at e past_declared ≡ ok (record { known = after; unknown = pick (is_known k) st.unknown (suc st.unknown) }) to))
    (λ s. (at, give_is _ b at e past_declared ∙ ap (λ (x : Known). ok (record { known = x; unknown = suc st.unknown }) at) s))
    (λ k known s. rw known (known-takes p back st k b at e n same (rw known at s))) k s

-- the same with its frame
record Element (p : Programme) (alternate : ℕ) (st st' : State) (b : Bits) (at e o to : ℕ) : Type 0 where
  x : Body
  ran : run (body alternate) b at e o ≡ ok x to
  steps : Step p x.kind x.bits st.known st'.known
  counted : st'.unknown ≡ pick (is_known x.kind) st.unknown (suc st.unknown)

-- its bits behind the discard flag
pub inner : {alternate : ℕ} {b : Bits} {at e o : ℕ} → Frame alternate b at e o → List ℕ
inner {alternate} {b} {at} f = slice b (body_at at alternate f.size) (declared_length f.size - head_length alternate)

pub body_is : (alternate : ℕ) (b : Bits) (at e o : ℕ) (f : Frame alternate b at e o)
    → run (body alternate) b at e o ≡ ok (record { kind = f.kind; bits = inner f }) (end_at at f.size)
unfolding body inner
body_is alternate b at e o f =
    f.same _
    ∙ ap (λ (r : Res Body). and_then r (λ a mid. ok a (end_at at f.size)))
    (field_is (declared_length f.size - head_length alternate) _ b (body_at at alternate f.size) (end_at at f.size) past_declared (omega (arith, f.room)))

element-took : (p : Programme) (alternate : ℕ) (st : State) (b : Bits) (at e o : ℕ) {st' : State} {to : ℕ} → Frame alternate b at e o
    → run (oa_element_md p alternate st) b at e o ≡ ok st' to → Element p alternate st st' b at e o to
unfolding oa_element_md inner
element-took p alternate st b at e o {st'} {to} f h =
    let t = and_then_ok _ _ (sym (f.same _) ∙ h) in
    let w = took p (back_to_id alternate f.size) st f.kind b (body_at at alternate f.size) (end_at at f.size) (declared_length f.size - head_length alternate)
    (omega (arith, f.room)) t.2 in
    record {
      x = record { kind = f.kind; bits = inner f };
      ran = ok_at (body_is alternate b at e o f) (sym (next t.3));
      steps = subst (λ (y : State). Step p f.kind (inner f) st.known y.known) (value t.3) w.steps;
      counted = ap (λ (y : State). y.unknown) (sym (value t.3)) ∙ w.counted;
    }

element-takes : (p : Programme) (alternate : ℕ) (st : State) (b : Bits) (at e o : ℕ) {x : Body} {after : Known} {to : ℕ} → Frame alternate b at e o
    → run (body alternate) b at e o ≡ ok x to → Step p x.kind x.bits st.known after
    → run (oa_element_md p alternate st) b at e o ≡ ok (record { known = after; unknown = pick (is_known x.kind) st.unknown (suc st.unknown) }) to
unfolding oa_element_md inner
element-takes p alternate st b at e o {x} {after} {to} f h s =
    let h' = sym (body_is alternate b at e o f) ∙ h in
    let is : record { kind = f.kind; bits = inner f } ≡ x = value h' in
    let w = takes p (back_to_id alternate f.size) st f.kind b (body_at at alternate f.size) (end_at at f.size) (declared_length f.size - head_length alternate)
    (omega (arith, f.room)) (subst (λ (y : Body). Step p y.kind y.bits st.known after) (sym is) s) in
    f.same _ ∙ ap (λ (r : Res State). and_then r (λ a mid. ok a (end_at at f.size))) w.1
    ∙ λ i. ok (record { known = after; unknown = pick (is_known (is i).kind) st.unknown (suc st.unknown) }) (next h' i)

-- an accepted element, and one of which the body is read, has a whole frame
md-frame : (p : Programme) (alternate : ℕ) (st : State) (b : Bits) (at e o : ℕ) {st' : State} {to : ℕ}
    → run (oa_element_md p alternate st) b at e o ≡ ok st' to
    → Frame alternate b at e o
unfolding oa_element_md
md-frame p alternate st b at e o h = frame-of alternate _ b at e o h

body-frame : (alternate : ℕ) (b : Bits) (at e o : ℕ) {x : Body} {to : ℕ} → run (body alternate) b at e o ≡ ok x to → Frame alternate b at e o
unfolding body
body-frame alternate b at e o h = frame-of alternate _ b at e o h

-- ---- all elements

record Elements (p : Programme) (alternate n : ℕ) (st st' : State) (b : Bits) (at e o to : ℕ) : Type 0 where
  xs : List Body
  ran : run (bodies alternate n) b at e o ≡ ok xs to
  steps : Steps p xs st.known st'.known
  counted : st'.unknown ≡ st.unknown + unknowns xs

count-on : (t : Bool) (u v w n : ℕ) → v ≡ pick t u (suc u) → w ≡ v + n → w ≡ u + pick t n (suc n)
count-on true u v w n h i = omega arith
count-on false u v w n h i = omega arith

elements-took : (p : Programme) (alternate n : ℕ) (st : State) (b : Bits) (at e o : ℕ) {st' : State} {to : ℕ}
    → run (elements p alternate n st) b at e o ≡ ok st' to
    → Elements p alternate n st st' b at e o to
unfolding elements bodies Steps unknowns
elements-took p alternate zero st b at e o h =
    let g = give_ok st b at e o h in
    let c = ap (λ (x : State). x.unknown) g.0 in
    record { xs = []; ran = ok_at (give_is [] b at e o) g.1; steps = ap (λ (x : State). x.known) g.0; counted = omega arith }
elements-took p alternate (suc n) st b at e o {st'} h =
    bind_ok _ _ b at e o h λ mid p1 h1 h.
    let x = element-took p alternate st b at e o (md-frame p alternate st b at e o h1) h1 in
    let y = elements-took p alternate n mid b p1 e o h in
    record {
      xs = x.x ∷ y.xs;
      ran = bind_is _ _ b at e o x.ran ∙ bind_is _ _ b p1 e o y.ran ∙ give_is _ b _ e o;
      steps = (mid.known, x.steps, y.steps);
      counted = count-on (is_known x.x.kind) st.unknown mid.unknown st'.unknown (unknowns y.xs) x.counted y.counted;
    }

elements-take : (p : Programme) (alternate n : ℕ) (st : State) (b : Bits) (at e o : ℕ) {xs : List Body} {after : Known} {to : ℕ}
    → run (bodies alternate n) b at e o ≡ ok xs to → Steps p xs st.known after
    → run (elements p alternate n st) b at e o ≡ ok (record { known = after; unknown = st.unknown + unknowns xs }) to
unfolding elements bodies Steps unknowns
elements-take p alternate zero st b at e o {xs} {after} {to} h s =
    let g = give_ok [] b at e o h in
    let d : st.known ≡ after = subst (λ (l : List Body). Steps p l st.known after) (sym g.0) s in
    let c : st.unknown ≡ st.unknown + unknowns xs = omega (arith, ap unknowns g.0) in
    give_is st b at e o ∙ λ i. ok (record { known = d i; unknown = c i }) (sym g.1 i)
elements-take p alternate (suc n) st b at e o {xs} {after} {to} h s =
    bind_ok _ _ b at e o h λ x p1 h1 h.
    bind_ok _ _ b p1 e o h λ ys p2 h2 h.
    let g = give_ok (x ∷ ys) b p2 e o h in
    let t = subst (λ (l : List Body). Steps p l st.known after) (sym g.0) s in
    let u : ℕ = pick (is_known x.kind) st.unknown (suc st.unknown) in
    let c : u + unknowns ys ≡ st.unknown + unknowns xs =
    count-on (is_known x.kind) st.unknown u (u + unknowns ys) (unknowns ys) refl refl ∙ ap (λ (l : List Body). st.unknown + unknowns l) g.0 in
    bind_is _ _ b at e o (element-takes p alternate st b at e o (body-frame alternate b at e o h1) h1 t.1)
    ∙ elements-take p alternate n (record { known = t.0; unknown = u }) b p1 e o h2 t.2
    ∙ λ i. ok (record { known = after; unknown = c i }) (sym g.1 i)

-- ---- the payload

-- an accepted payload has an outline, of which the known elements make what is known
pub record Outlined (s : List ℕ) (q : Payload) : Type 0 where
  pub is : Outline
  pub to : ℕ
  pub ran : runs outline_payload s 0 ≡ ok is to
  pub programme : is.header.programme ≡ q.programme
  pub steps : Steps is.header.programme (known is.elements) nothing q.known
  pub counted : q.unknown ≡ unknowns is.elements

pub outlined : (s : List ℕ) {q : Payload} {to : ℕ} → parsed s ≡ ok q to → Outlined s q
unfolding object_audio_metadata_payload outline_payload
outlined s {q} h =
    let b = bit s in
    let e : ℕ = 8 * length s in
    let o : ℕ = past_payload in
    bind_ok _ _ b 0 e o h λ hd p1 h1 h.
    bind_ok _ _ b p1 e o h λ n p2 h2 h.
    bind_ok _ _ b p2 e o h λ st p3 h3 h.
    let g = (give_ok _ b p3 e o h).0 in
    let x = elements-took hd.programme hd.alternate n _ b p2 e o h3 in
    let k : st.known ≡ q.known = ap (λ (y : Payload). y.known) g in
    let u : st.unknown ≡ q.unknown = ap (λ (y : Payload). y.unknown) g in
    record {
      is = record { header = hd; elements = x.xs };
      to = p3;
      ran = bind_is _ _ b 0 e o h1 ∙ bind_is _ _ b p1 e o h2 ∙ bind_is _ _ b p2 e o x.ran ∙ give_is _ b p3 e o;
      programme = ap (λ (y : Payload). y.programme) g;
      steps = subst (λ (y : Known). Steps hd.programme (known x.xs) nothing y) k (steps-known hd.programme x.xs nothing st.known x.steps);
      counted = omega (arith, x.counted);
    }

-- and what has an outline of which the known elements make something is accepted with that
pub from-outline : (s : List ℕ) (x : Outline) (after : Known) {to : ℕ} → runs outline_payload s 0 ≡ ok x to
    → Steps x.header.programme (known x.elements) nothing after
    → parsed s ≡ ok (record { programme = x.header.programme; known = after; unknown = unknowns x.elements }) to
unfolding object_audio_metadata_payload outline_payload
from-outline s x after {to} h t =
    let b = bit s in
    let e : ℕ = 8 * length s in
    let o : ℕ = past_payload in
    bind_ok _ _ b 0 e o h λ hd p1 h1 h.
    bind_ok _ _ b p1 e o h λ n p2 h2 h.
    bind_ok _ _ b p2 e o h λ xs p3 h3 h.
    let g = give_ok _ b p3 e o h in
    let t' = subst (λ (y : Outline). Steps y.header.programme (known y.elements) nothing after) (sym g.0) t in
    let z = elements-take hd.programme hd.alternate n (record { known = nothing; unknown = 0 }) b p2 e o h3 (known-steps hd.programme xs nothing after t') in
    let c : 0 + unknowns xs ≡ unknowns x.elements = omega (arith, ap (λ (y : Outline). unknowns y.elements) g.0) in
    bind_is _ _ b 0 e o h1 ∙ bind_is _ _ b p1 e o h2 ∙ bind_is _ _ b p2 e o z ∙ give_is _ b p3 e o
    ∙ λ i. ok (record { programme = (g.0 i).header.programme; known = after; unknown = c i }) (sym g.1 i)

-- ---- outlines and skeletons that are there

pub given_some : {A : Type 0} (r : Res A) {a : A} → given r ≡ some a → (to : ℕ) × (r ≡ ok a to)
given_some (ok x to) h = (to, cc)
given_some (no r pl m) h = let z : ◌≡◌ {A = ℕ} 0 1 = cc in absurd (omega arith)

pub taken_some : (x : Option Outline) {y : Outline} → taken_out x ≡ some y
    → (z : Outline) × (x ≡ some z) × (record { header = z.header; elements = known z.elements } ≡ y)
taken_some none h = let z : ◌≡◌ {A = ℕ} 0 1 = cc in absurd (omega arith)
taken_some (some z) h = (z, refl, cc)

-- ---- unknown elements among others

pub known-without : (before behind : List Body) (u : Body) → u.kind ≡ Unknown → known (before ++ (u ∷ behind)) ≡ known (before ++ behind)
unfolding known
known-without [] behind u h = ap (λ (k : Kind). pick (is_known k) (u ∷ known behind) (known behind)) h
known-without (x ∷ xs) behind u h = ap (λ (l : List Body). pick (is_known x.kind) (x ∷ l) l) (known-without xs behind u h)
