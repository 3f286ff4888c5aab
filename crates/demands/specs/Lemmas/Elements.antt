-- What stands behind an element's frame, accepted.
use Rattle.std.specs.Prelude.{◌≡◌, refl, Bool, true, false, ℕ}
use Rattle.std.proofs.Common.{sym, ap, ◌∙◌}
use Rattle.bits.specs.Language.{ok, Bits, P, run, refuse_if}
use Rattle.bits.specs.Steps.{no_ok, bind_ok, give_ok, bind_is, give_is}
use Rattle.oamd.specs.declared.Kind.{Kind}
use Rattle.oamd.specs.declared.Kind.TheVariants.{Unknown, Object, Trim, Extended}
use Rattle.oamd.specs.declared.Programme.{Programme}
use Rattle.oamd.specs.Element.{Known, is_second, is_early, fields, State, pass_over, read_known, oa_element}
use Rattle.demands.specs.Skeleton.{is_known}

pub refuse_if_ok : {A : Type 0} (t : Bool) (r back : ℕ) (v : A) (b : Bits) (at e o : ℕ) {w : A} {to : ℕ} → run (refuse_if t r back v) b at e o ≡ ok w to
    → (t ≡ false) × (to ≡ at)
unfolding run
refuse_if_ok true r back v b at e o h = absurd (no_ok h)
refuse_if_ok false r back v b at e o h = (refl, (give_ok v b at e o h).1)

pub refuse_if_is : {A : Type 0} (t : Bool) (r back : ℕ) (v : A) (b : Bits) (at e o : ℕ) → t ≡ false → run (refuse_if t r back v) b at e o ≡ ok v at
refuse_if_is t r back v b at e o h = rw h (give_is v b at e o)

-- what holds of an unknown element, which is passed over, and of every known one, read as such, holds of every element
pub by_kind : (p : Programme) (back : ℕ) (st : State) (Q : Kind → P State → Type 0) → Q Unknown (pass_over st)
    → ((k : Kind) → is_known k ≡ true → Q k (read_known p back st k)) → (k : Kind) → Q k (oa_element p back st k)
unfolding oa_element
by_kind p back st Q over read Unknown = over
by_kind p back st Q over read Object = read Object refl
by_kind p back st Q over read Trim = read Trim refl
by_kind p back st Q over read Extended = read Extended refl

-- a known element is no second one and not early, and its fields are read
pub record Fields (p : Programme) (st : State) (k : Kind) (b : Bits) (at e o : ℕ) (st' : State) (to : ℕ) : Type 0 where
  pub first : is_second k st.known ≡ false
  pub timely : is_early k st.known ≡ false
  pub ran : run (fields p k st.known) b at e o ≡ ok st'.known to
  pub unknown : st'.unknown ≡ st.unknown

pub fields_of : (p : Programme) (back : ℕ) (st : State) (k : Kind) (b : Bits) (at e o : ℕ) {st' : State} {to : ℕ}
    → run (read_known p back st k) b at e o ≡ ok st' to
    → Fields p st k b at e o st' to
unfolding read_known
fields_of p back st k b at e o {st'} {to} h =
    bind_ok _ _ b at e o h λ first p1 h1 h.
    bind_ok _ _ b p1 e o h λ timely p2 h2 h.
    bind_ok _ _ b p2 e o h λ known p3 h3 h.
    let x = refuse_if_ok _ _ _ _ b at e o h1 in
    let y = refuse_if_ok _ _ _ _ b p1 e o h2 in
    let z = give_ok _ b p3 e o h in
    let c : st'.known ≡ known = ap (λ (s : State). s.known) (sym z.0) in
    let i : p2 ≡ at = y.1 ∙ x.1 in
    record {
      first = x.0;
      timely = y.0;
      ran = cc;
      unknown = ap (λ (s : State). s.unknown) (sym z.0);
    }

pub known_is : (p : Programme) (back : ℕ) (st : State) (k : Kind) (b : Bits) (at e o : ℕ) {known : Known} {to : ℕ} → is_second k st.known ≡ false
    → is_early k st.known ≡ false → run (fields p k st.known) b at e o ≡ ok known to
    → run (read_known p back st k) b at e o ≡ ok (record { known = known; unknown = st.unknown }) to
unfolding read_known
known_is p back st k b at e o first timely h =
    bind_is _ _ b at e o (refuse_if_is _ _ _ _ b at e o first) ∙ bind_is _ _ b at e o (refuse_if_is _ _ _ _ b at e o timely) ∙ bind_is _ _ b at e o h
    ∙ give_is _ b _ e o
