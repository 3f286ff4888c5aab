-- Where in the order of reading a refusal comes from, by its number.
use Rattle.std.specs.Prelude.{◌≡◌, refl, Bool, true, false, not, List, ◌⊎◌, ℕ, zero, suc, ◌+◌, ◌-◌, ◌*◌, ◌<◌, eqb, length}
use Rattle.std.proofs.Common.{sym, ap, ◌∙◌, subst, subst₂, inl, inr, arith, ne_eqb}
use Rattle.std.proofs.lemmas.Bool.{eqb-false, not-true}
use Rattle.bits.specs.Language.{Res, ok, no, pick, Bits, P, give, and_then, run, number, bits_if, refuse_if, bit, past_payload, past_declared}
use Rattle.bits.specs.Steps.{no_ok, value, place, and_then_ok, bind_ok, bind_no, bind_is, bind_stops, field_ok, field_no, give_ok, give_no, give_is, refuse_no}
use Rattle.bits.specs.Laws.{says-pick, saying, numbered}
use Rattle.bits.specs.Terms.{Says}
use Rattle.oamd.specs.declared.Kind.{Kind}
use Rattle.oamd.specs.declared.Programme.{Programme}
use Rattle.oamd.specs.Programme.{agrees}
use Rattle.oamd.specs.Element.{back_to_id, framed, Known, is_second, is_early, State, pass_over, read_known, oa_element, oa_element_md, elements}
use Rattle.oamd.specs.Payload.{oa_md_version, header, object_audio_metadata_payload}
use Rattle.demands.specs.Terms.{runs, parsed}
use Rattle.demands.specs.Conditions.{OtherVersion, CountsDisagree, Meets, SecondKnown, EarlyExtended}
use Rattle.demands.specs.Lemmas.Numbers.{version-says, count-says, many_say, assignment-says, header-says, fields_say, elements_say}
use Rattle.demands.specs.Lemmas.Frame.{Frame, Broken, frame, frame-of, body_at, end_at}
use Rattle.demands.specs.Lemmas.Elements.{refuse_if_ok, refuse_if_is, by_kind}

-- a refusal of a number that the reader does not say, and that is not for passing an end, does not come
never : {A : Type 0} (p : P A) (b : Bits) (at e o : ℕ) {r pl m : ℕ} → Says p (λ n. n ≡ r → ⊥) → (o ≡ r → ⊥) → (past_declared ≡ r → ⊥)
    → run p b at e o ≡ no r pl m → ⊥
never p b at e o {r} s f g h = numbered p (λ n. n ≡ r → ⊥) b at e o s f g h refl

refuse_if_no : {A : Type 0} (t : Bool) (r back : ℕ) (v : A) (b : Bits) (at e o : ℕ) {r' pl m : ℕ} → run (refuse_if t r back v) b at e o ≡ no r' pl m
    → (t ≡ true) × (r' ≡ r) × (pl ≡ at - back)
refuse_if_no true r back v b at e o h = let x = refuse_no r back b at e o h in (refl, x.0, x.1)
refuse_if_no false r back v b at e o h = absurd (give_no v b at e o h)

refuse_if_stops : {A : Type 0} (t : Bool) (r back : ℕ) (v : A) (b : Bits) (at e o : ℕ) → t ≡ true → run (refuse_if t r back v) b at e o ≡ no r (at - back) 0
unfolding run
refuse_if_stops t r back v b at e o h = rw h

-- ---- 3 comes from the version

pub payload_stops : (s : List ℕ) {r pl m : ℕ} → runs header s 0 ≡ no r pl m → parsed s ≡ no r pl m
unfolding object_audio_metadata_payload
payload_stops s h = bind_stops _ _ (bit s) 0 (8 * length s) past_payload h

pub in-header : (s : List ℕ) {r pl m : ℕ} → parsed s ≡ no r pl m → (r ≡ 3) ⊎ (r ≡ 4) → runs header s 0 ≡ no r pl m
unfolding object_audio_metadata_payload Says
in-header s {r} {pl} {m} h w = go w
  where
    other : (2 ≡ r → ⊥) → (5 ≡ r → ⊥) → (6 ≡ r → ⊥) → (7 ≡ r → ⊥) → (8 ≡ r → ⊥) → runs header s 0 ≡ no r pl m
    other f2 f5 f6 f7 f8 =
        bind_no _ _ (bit s) 0 (8 * length s) past_payload h (λ x. x) λ hd p x y.
        absurd (never _ (bit s) p (8 * length s) past_payload (many_say _, λ n. (elements_say _ f5 f6 f7 _ _ n _, λ st. tt)) f2 f8 y)

    go : (r ≡ 3) ⊎ (r ≡ 4) → runs header s 0 ≡ no r pl m
    go (inl x) = other (λ z. omega arith) (λ z. omega arith) (λ z. omega arith) (λ z. omega arith) (λ z. omega arith)
    go (inr x) = other (λ z. omega arith) (λ z. omega arith) (λ z. omega arith) (λ z. omega arith) (λ z. omega arith)

-- how far an extension goes
extension-goes : (t : Bool) (b : Bits) (at e o : ℕ) {v to : ℕ} → run (bits_if t 3) b at e o ≡ ok v to → to ≡ at + pick t 3 0
extension-goes true b at e o h = (field_ok 3 number b at e o h).2
extension-goes false b at e o h = let x = give_ok 0 b at e o h in omega arith

-- behind a field and its extension, the place so far back is the first bit
back_to_0 : (t : Bool) (at to : ℕ) → at ≡ 0 + 2 → to ≡ at + pick t 3 0 → 0 ≡ to - pick t 5 2
back_to_0 true at to i j = omega arith
back_to_0 false at to i j = omega arith

pub version_of : (s : List ℕ) {pl m : ℕ} → runs oa_md_version s 0 ≡ no 3 pl m → OtherVersion s × (pl ≡ 0)
unfolding oa_md_version Says
version_of s {pl} {m} h =
    let b = bit s in
    let e : ℕ = 8 * length s in
    bind_no _ _ b 0 e past_payload h (λ x. absurd (omega (arith, (field_no 2 number b 0 e past_payload x).0))) λ v at hv h.
    bind_no _ _ b at e past_payload h
    (λ x. absurd (never (bits_if (eqb v 3) 3) b at e past_payload (search (saying, tt)) (λ z. omega arith) (λ z. omega arith) x)) λ ext to hx h.
    let r = refuse_if_no (not (eqb v 0)) 3 (pick (eqb v 3) 5 2) 0 b to e past_payload h in
    let i = (field_ok 2 number b 0 e past_payload hv).2 in
    let z = eqb-false v 0 (not-true (eqb v 0) r.0) in (
      record {
        version = v;
        extension = ext;
        at = at;
        to = to;
        read = hv;
        extended = hx;
        other = λ w. z (omega arith);
      },
      r.2 ∙ sym (back_to_0 (eqb v 3) at to i (extension-goes (eqb v 3) b at e past_payload hx)),
    )

pub version_is : (s : List ℕ) → OtherVersion s → runs oa_md_version s 0 ≡ no 3 0 0
unfolding oa_md_version
version_is s x =
    let b = bit s in
    let e : ℕ = 8 * length s in
    let v = x.version in
    let i = (field_ok 2 number b 0 e past_payload x.read).2 in
    let z : v ≡ 0 → ⊥ =
    λ z.
    let none = subst (λ (n : ℕ). run (bits_if (eqb n 3) 3) b x.at e past_payload ≡ ok x.extension x.to) z x.extended in
    let blank = (give_ok 0 b x.at e past_payload none).0 in
    x.other (omega arith) in
    bind_is _ _ b 0 e past_payload x.read ∙ bind_is _ _ b x.at e past_payload x.extended
    ∙ refuse_if_stops (not (eqb v 0)) 3 (pick (eqb v 3) 5 2) 0 b x.to e past_payload (ap not (ne_eqb v 0 z))
    ∙ ap (λ (pl : ℕ). no 3 pl 0) (sym (back_to_0 (eqb v 3) x.at x.to i (extension-goes (eqb v 3) b x.at e past_payload x.extended)))

pub header_stops : (s : List ℕ) {r pl m : ℕ} → runs oa_md_version s 0 ≡ no r pl m → runs header s 0 ≡ no r pl m
unfolding header
header_stops s h = bind_stops _ _ (bit s) 0 (8 * length s) past_payload h

pub in-version : (s : List ℕ) {pl m : ℕ} → runs header s 0 ≡ no 3 pl m → runs oa_md_version s 0 ≡ no 3 pl m
unfolding header Says
in-version s h =
    let b = bit s in
    let e : ℕ = 8 * length s in
    bind_no _ _ b 0 e past_payload h (λ x. x) λ v at hv h.
    absurd (never _ b at e past_payload
    (count-says _, λ n. (assignment-says _ (λ z. omega arith) n, λ p. (says-pick (not (agrees p)) _ _ _ (λ z. omega arith) tt, λ p. (tt, λ alternate. tt))))
    (λ z. omega arith) (λ z. omega arith) h)

-- ---- 4 comes from the program assignment

pub counts_of : (s : List ℕ) {pl m : ℕ} → runs header s 0 ≡ no 4 pl m → CountsDisagree s pl
unfolding header
counts_of s {pl} {m} h =
    let b = bit s in
    let e : ℕ = 8 * length s in
    bind_no _ _ b 0 e past_payload h
    (λ x. absurd (never _ b 0 e past_payload (version-says _ (λ z. omega arith)) (λ z. omega arith) (λ z. omega arith) x)) λ v at hv h.
    bind_no _ _ b at e past_payload h
    (λ x. absurd (never _ b at e past_payload (count-says _) (λ z. omega arith) (λ z. omega arith) x)) λ n to hn h.
    bind_no _ _ b to e past_payload h
    (λ x. absurd (never _ b to e past_payload (assignment-says _ (λ z. omega arith) n) (λ z. omega arith) (λ z. omega arith) x)) λ p mid hp h.
    bind_no _ _ b mid e past_payload h
    (λ x.
    let r = refuse_if_no (not (agrees p)) 4 0 p b mid e past_payload x in
    let same : pl ≡ mid = omega arith in
    record {
      version = v;
      count = n;
      programme = p;
      at = at;
      to = to;
      versioned = hv;
      counted = hn;
      assigned = cc;
      disagree = not-true (agrees p) r.0;
    }) λ p' mid' hp' h.
    bind_no _ _ b mid' e past_payload h
    (λ x. absurd (omega (arith, (field_no 1 number b mid' e past_payload x).0))) λ alternate last ha h.
    absurd (give_no _ b last e past_payload h)

pub counts_is : (s : List ℕ) {pl : ℕ} → CountsDisagree s pl → runs header s 0 ≡ no 4 pl 0
unfolding header
counts_is s {pl} x =
    let b = bit s in
    let e : ℕ = 8 * length s in
    bind_is _ _ b 0 e past_payload x.versioned ∙ bind_is _ _ b x.at e past_payload x.counted ∙ bind_is _ _ b x.to e past_payload x.assigned
    ∙ bind_stops _ _ b pl e past_payload (refuse_if_stops (not (agrees x.programme)) 4 0 x.programme b pl e past_payload (ap not x.disagree))
    ∙ ap (λ (n : ℕ). no 4 n 0) (omega arith)

-- ---- 6 and 7 come from an element

-- the elements before the one that is refused
record Before (p : Programme) (alternate n : ℕ) (st : State) (b : Bits) (at e o r pl m : ℕ) : Type 0 where
  done : ℕ
  more : done < n
  mid : State
  to : ℕ
  read : run (elements p alternate done st) b at e o ≡ ok mid to
  stops : run (oa_element_md p alternate mid) b to e o ≡ no r pl m

elements_no : (p : Programme) (alternate n : ℕ) (st : State) (b : Bits) (at e o : ℕ) {r pl m : ℕ} → run (elements p alternate n st) b at e o ≡ no r pl m
    → Before p alternate n st b at e o r pl m
unfolding elements
elements_no p alternate zero st b at e o h = absurd (give_no st b at e o h)
elements_no p alternate (suc n) st b at e o h =
    bind_no _ _ b at e o h (λ x. record { done = 0; more = omega arith; mid = st; to = at; read = give_is st b at e o; stops = x }) λ st₁ p1 h1 h.
    let ih = elements_no p alternate n st₁ b p1 e o h in
    record {
      done = suc ih.done;
      more = omega (arith, ih.more);
      mid = ih.mid;
      to = ih.to;
      read = bind_is _ _ b at e o h1 ∙ ih.read;
      stops = ih.stops;
    }

elements-stop : (p : Programme) (alternate n : ℕ) (st : State) (b : Bits) (at e o done : ℕ) (mid : State) (to : ℕ) {r pl m : ℕ} → done < n
    → run (elements p alternate done st) b at e o ≡ ok mid to → run (oa_element_md p alternate mid) b to e o ≡ no r pl m
    → run (elements p alternate n st) b at e o ≡ no r pl m
unfolding elements
elements-stop p alternate zero st b at e o done mid to l h x = absurd (omega arith)
elements-stop p alternate (suc n) st b at e o zero mid to {r} {pl} {m} l h x =
    let g = give_ok st b at e o h in
    bind_stops _ _ b at e o (subst₂ (λ (s : State) (i : ℕ). run (oa_element_md p alternate s) b i e o ≡ no r pl m) (sym g.0) g.1 x)
elements-stop p alternate (suc n) st b at e o (suc done) mid to l h x =
    bind_ok _ _ b at e o h λ st₁ p1 h1 h.
    bind_is _ _ b at e o h1 ∙ elements-stop p alternate n st₁ b p1 e o done mid to (omega arith) h x

-- what a known element is refused with, before its fields
record Gate (k : Kind) (known : Known) (place r pl : ℕ) : Type 0 where
  second : r ≡ 6 → (is_second k known ≡ true) × (pl ≡ place)
  early : r ≡ 7 → (is_second k known ≡ false) × (is_early k known ≡ true) × (pl ≡ place)

known_no : (p : Programme) (back : ℕ) (st : State) (k : Kind) (b : Bits) (at e : ℕ) {r pl m : ℕ} → run (read_known p back st k) b at e past_declared ≡ no r pl m
    → Gate k st.known (at - back) r pl
unfolding read_known
known_no p back st k b at e {r} {pl} {m} h =
    bind_no _ _ b at e past_declared h
    (λ x.
    let g = refuse_if_no (is_second k st.known) 6 back k b at e past_declared x in
    record { second = λ z. (g.0, g.2); early = λ z. absurd (omega arith) })
    λ k' p1 h1 h.
    let first = refuse_if_ok (is_second k st.known) 6 back k b at e past_declared h1 in
    bind_no _ _ b p1 e past_declared h
    (λ x.
    let g = refuse_if_no (is_early k st.known) 7 back k b p1 e past_declared x in
    record { second = λ z. absurd (omega arith); early = λ z. (first.0, g.0, omega arith) })
    λ k'' p2 h2 h.
    bind_no _ _ b p2 e past_declared h
    (λ x.
    let other : (n : ℕ) → (5 ≡ n → ⊥) → (8 ≡ n → ⊥) → r ≡ n → ⊥ =
    λ n f g z. never _ b p2 e past_declared (fields_say _ (λ i. f (i ∙ z)) p k st.known) (λ i. g (i ∙ z)) (λ i. g (i ∙ z)) x in
    record {
      second = λ z. absurd (other 6 (λ i. omega arith) (λ i. omega arith) z);
      early = λ z. absurd (other 7 (λ i. omega arith) (λ i. omega arith) z);
    })
    λ known p3 h3 h.
    absurd (give_no _ b p3 e past_declared h)

inside_no : (p : Programme) (back : ℕ) (st : State) (k : Kind) (b : Bits) (at e : ℕ) {r pl m : ℕ}
    → run (oa_element p back st k) b at e past_declared ≡ no r pl m
    → Gate k st.known (at - back) r pl
unfolding pass_over
inside_no p back st k b at e {r} {pl} {m} h =
    by_kind p back st (λ k x. run x b at e past_declared ≡ no r pl m → Gate k st.known (at - back) r pl) (λ h. absurd (give_no _ b at e past_declared h))
    (λ k known h. known_no p back st k b at e h) k h

known-second : (p : Programme) (back : ℕ) (st : State) (k : Kind) (b : Bits) (at e o : ℕ) → is_second k st.known ≡ true
    → run (read_known p back st k) b at e o ≡ no 6 (at - back) 0
unfolding read_known
known-second p back st k b at e o h = bind_stops _ _ b at e o (refuse_if_stops _ 6 back k b at e o h)

known-early : (p : Programme) (back : ℕ) (st : State) (k : Kind) (b : Bits) (at e o : ℕ) → is_second k st.known ≡ false → is_early k st.known ≡ true
    → run (read_known p back st k) b at e o ≡ no 7 (at - back) 0
unfolding read_known
known-early p back st k b at e o h i =
    bind_is _ _ b at e o (refuse_if_is _ 6 back k b at e o h) ∙ bind_stops _ _ b at e o (refuse_if_stops _ 7 back k b at e o i)

inside-second : (p : Programme) (back : ℕ) (st : State) (k : Kind) (b : Bits) (at e o : ℕ) → is_second k st.known ≡ true
    → run (oa_element p back st k) b at e o ≡ no 6 (at - back) 0
inside-second p back st k b at e o h =
    by_kind p back st (λ k x. is_second k st.known ≡ true → run x b at e o ≡ no 6 (at - back) 0) (λ h. let z : ◌≡◌ {A = ℕ} 0 1 = cc in absurd (omega arith))
    (λ k known h. known-second p back st k b at e o h) k h

inside-early : (p : Programme) (back : ℕ) (st : State) (k : Kind) (b : Bits) (at e o : ℕ) → is_second k st.known ≡ false → is_early k st.known ≡ true
    → run (oa_element p back st k) b at e o ≡ no 7 (at - back) 0
inside-early p back st k b at e o h i =
    by_kind p back st (λ k x. is_second k st.known ≡ false → is_early k st.known ≡ true → run x b at e o ≡ no 7 (at - back) 0)
    (λ h i. let z : ◌≡◌ {A = ℕ} 0 1 = cc in absurd (omega arith)) (λ k known h i. known-early p back st k b at e o h i) k h i

pub then_no : {A B : Type 0} (x : Res A) (f : A → B) (end : ℕ) {r pl m : ℕ} → and_then x (λ a mid. ok (f a) end) ≡ no r pl m → x ≡ no r pl m
then_no (ok a mid) f end h = absurd (no_ok (sym h))
then_no (no r pl m) f end h = cc

-- an element of which the frame is whole and what stands in it is refused
record Held (k : Kind) (alternate : ℕ) (known : Known) (b : Bits) (at e r pl : ℕ) : Type 0 where
  end : ℕ
  framed : run (framed alternate (λ k size. give k)) b at e past_payload ≡ ok k end
  gate : Gate k known at r pl

apart : (r q : ℕ) → q ≡ r → (r ≡ 6) ⊎ (r ≡ 7) → (q ≡ past_payload) ⊎ (q ≡ past_declared) → ⊥
apart r q same (inl x) (inl y) = omega arith
apart r q same (inl x) (inr y) = omega arith
apart r q same (inr x) (inl y) = omega arith
apart r q same (inr x) (inr y) = omega arith

element_no : (p : Programme) (alternate : ℕ) (st : State) (b : Bits) (at e : ℕ) {r pl m : ℕ}
    → run (oa_element_md p alternate st) b at e past_payload ≡ no r pl m
    → (r ≡ 6) ⊎ (r ≡ 7) → (k : Kind) × Held k alternate st.known b at e r pl
unfolding oa_element_md
element_no p alternate st b at e {r} {pl} {m} h w = go (frame alternate b at e past_payload)
  where
    go : Frame alternate b at e past_payload ⊎ Broken alternate b at e past_payload → (k : Kind) × Held k alternate st.known b at e r pl
    go (inl f) =
        let z = f.size in
        let x = inside_no p (back_to_id alternate z) st f.kind b (body_at at alternate z) (end_at at z) (then_no _ (λ a. a) (end_at at z) (sym (f.same _) ∙ h)) in
        let i : body_at at alternate z - back_to_id alternate z ≡ at = omega arith in (
          f.kind,
          record {
            end = end_at at z;
            framed = f.same _ ∙ ap (λ (y : Res Kind). and_then y (λ a mid. ok a (end_at at z))) (give_is f.kind b (body_at at alternate z) (end_at at z) past_declared);
            gate = subst (λ (n : ℕ). Gate f.kind st.known n r pl) i x;
          },
        )
    go (inr f) = absurd (apart r f.r (place (sym h ∙ f.same _)).0 w f.why)

element_stops : (p : Programme) (alternate : ℕ) (st : State) (b : Bits) (at e : ℕ) {k : Kind} {end : ℕ}
    → run (framed alternate (λ k size. give k)) b at e past_payload ≡ ok k end
    → ((is_second k st.known ≡ true) → run (oa_element_md p alternate st) b at e past_payload ≡ no 6 at 0)
    × ((is_second k st.known ≡ false) → (is_early k st.known ≡ true) → run (oa_element_md p alternate st) b at e past_payload ≡ no 7 at 0)
unfolding oa_element_md
element_stops p alternate st b at e {k} h =
    let f = frame-of alternate (λ k size. give k) b at e past_payload h in
    let z = f.size in
    let to : ℕ = end_at at z in
    let t = and_then_ok _ _ (sym (f.same _) ∙ h) in
    let same : f.kind ≡ k = (give_ok f.kind b (body_at at alternate z) to past_declared t.2).0 ∙ value t.3 in
    let i : body_at at alternate z - back_to_id alternate z ≡ at = omega arith in (
      (λ s.
          f.same _
          ∙ ap (λ (y : Res State). and_then y (λ a mid. ok a to))
          (inside-second p (back_to_id alternate z) st f.kind b (body_at at alternate z) to past_declared (rw same s))
          ∙ ap (λ (n : ℕ). no 6 n 0) i),
      (λ s t.
          f.same _
          ∙ ap (λ (y : Res State). and_then y (λ a mid. ok a to))
          (inside-early p (back_to_id alternate z) st f.kind b (body_at at alternate z) to past_declared (rw same s) (rw same t))
          ∙ ap (λ (n : ℕ). no 7 n 0) i),
    )

-- the element that is refused, and what is refused of it
record Element (s : List ℕ) (r pl : ℕ) : Type 0 where
  kind : Kind
  known : Known
  place : ℕ
  meets : Meets s place kind known
  gate : Gate kind known place r pl

in-element : (s : List ℕ) {r pl m : ℕ} → parsed s ≡ no r pl m → (r ≡ 6) ⊎ (r ≡ 7) → Element s r pl
unfolding object_audio_metadata_payload
in-element s {r} {pl} {m} h w = go w
  where
    b : Bits
    b = bit s

    e : ℕ
    e = 8 * length s

    other : (2 ≡ r → ⊥) → (3 ≡ r → ⊥) → (4 ≡ r → ⊥) → (5 ≡ r → ⊥) → (8 ≡ r → ⊥) → Element s r pl
    other f2 f3 f4 f5 f8 =
        bind_no _ _ b 0 e past_payload h (λ x. absurd (never _ b 0 e past_payload (header-says _ f3 f4 f5) f2 f8 x)) λ hd at h1 h.
        bind_no _ _ b at e past_payload h (λ x. absurd (never _ b at e past_payload (many_say _) f2 f8 x)) λ n to h2 h.
        bind_no _ _ b to e past_payload h
        (λ x.
        let y = elements_no hd.programme hd.alternate n _ b to e past_payload x in
        let z = element_no hd.programme hd.alternate y.mid b y.to e y.stops w in
        record {
          kind = z.0;
          known = y.mid.known;
          place = y.to;
          gate = z.1.gate;
          meets = record {
            head = hd;
            count = n;
            done = y.done;
            unknown = y.mid.unknown;
            at = at;
            to = to;
            end = z.1.end;
            headed = h1;
            counted = h2;
            more = y.more;
            read = y.read;
            framed = z.1.framed;
          };
        }) λ st last h3 h.
        absurd (give_no _ b last e past_payload h)

    go : (r ≡ 6) ⊎ (r ≡ 7) → Element s r pl
    go (inl x) = other (λ z. omega arith) (λ z. omega arith) (λ z. omega arith) (λ z. omega arith) (λ z. omega arith)
    go (inr x) = other (λ z. omega arith) (λ z. omega arith) (λ z. omega arith) (λ z. omega arith) (λ z. omega arith)

payload-at : (s : List ℕ) {place : ℕ} {k : Kind} {known : Known} (x : Meets s place k known) {r pl m : ℕ}
    → runs (oa_element_md x.head.programme x.head.alternate (record { known = known; unknown = x.unknown })) s place ≡ no r pl m
    → parsed s ≡ no r pl m
unfolding object_audio_metadata_payload
payload-at s {place} x h =
    let b = bit s in
    let e : ℕ = 8 * length s in
    bind_is _ _ b 0 e past_payload x.headed ∙ bind_is _ _ b x.at e past_payload x.counted
    ∙ bind_stops _ _ b x.to e past_payload
    (elements-stop x.head.programme x.head.alternate x.count _ b x.to e past_payload x.done _ place x.more x.read h)

pub second_of : (s : List ℕ) {pl m : ℕ} → parsed s ≡ no 6 pl m → SecondKnown s pl
second_of s {pl} h =
    let x = in-element s h (inl refl) in
    let g = x.gate.second refl in
    record { kind = x.kind; known = x.known; meets = subst (λ (n : ℕ). Meets s n x.kind x.known) (sym g.1) x.meets; second = g.0 }

pub second_is : (s : List ℕ) {pl : ℕ} → SecondKnown s pl → parsed s ≡ no 6 pl 0
second_is s {pl} x =
    let y = x.meets in
    let st : State = record { known = x.known; unknown = y.unknown } in
    payload-at s y ((element_stops y.head.programme y.head.alternate st (bit s) pl (8 * length s) y.framed).0 x.second)

pub early_of : (s : List ℕ) {pl m : ℕ} → parsed s ≡ no 7 pl m → EarlyExtended s pl
early_of s {pl} h =
    let x = in-element s h (inr refl) in
    let g = x.gate.early refl in
    record {
      kind = x.kind;
      known = x.known;
      meets = subst (λ (n : ℕ). Meets s n x.kind x.known) (sym g.2) x.meets;
      first = g.0;
      early = g.1;
    }

pub early_is : (s : List ℕ) {pl : ℕ} → EarlyExtended s pl → parsed s ≡ no 7 pl 0
early_is s {pl} x =
    let y = x.meets in
    let st : State = record { known = x.known; unknown = y.unknown } in
    payload-at s y ((element_stops y.head.programme y.head.alternate st (bit s) pl (8 * length s) y.framed).1 x.first x.early)
