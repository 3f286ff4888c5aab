-- What an element's frame hands on, and where it ends. Assumes nothing.
use mathlib.Core.Path.{◌≡◌, refl, sym}
use mathlib.Core.Bool.{Bool, true, false}
use Prim.Native.Nat.{ℕ, suc, ◌+◌, ◌*◌}
use Rattle.bits.specs.declared.Size.{Size}
use Rattle.bits.specs.Language.{pick, Bits, P, ok, run, slice, number, bits_if, past_declared}
use Rattle.bits.specs.Size.{variable_bits_max}
use Rattle.bits.specs.Steps.{bind_ok, within_ok, field_ok, give_ok}
use Rattle.oamd.specs.declared.Kind.{Kind}
use Rattle.oamd.specs.declared.Kind.TheVariants.{Unknown}
use Rattle.oamd.specs.declared.Programme.{Programme}
use Rattle.oamd.specs.Programme.{set?}
use Rattle.oamd.specs.Element.{kind, framed, State, pass_over, oa_element}

-- The kind is that of the four bits of the id and, where there are any, of the alternate id; the discard flag is not looked at. The element takes one byte more
-- than its size says, counted from behind its size: from its alternate id if there is one, else from its discard flag (5.6.4.3)
pub record Ends {A : Type 0} (alternate : ℕ) (f : Kind → Size → P A) (b : Bits) (at e o : ℕ) (v : A) (to : ℕ) : Type 0 where
  pub size : Size
  pub behind : ℕ
  pub inside : ℕ
  pub mid : ℕ
  pub sized : run variable_bits_max b (at + 4) e o ≡ ok size behind
  pub by_kind : run (f (kind (number (slice b at 4)) (pick (set? alternate) (number (slice b behind 4)) 0)) size) b inside to past_declared ≡ ok v mid
  pub ends : to ≡ behind + 8 * (size.value + 1)

sent : (on : Bool) (b : Bits) (at e o : ℕ) {v to : ℕ} → run (bits_if on 4) b at e o ≡ ok v to → v ≡ pick on (number (slice b at 4)) 0
sent true b at e o h = sym (field_ok 4 number b at e o h).1
sent false b at e o h = sym (give_ok 0 b at e o h).0

pub element-ends : {A : Type 0} (alternate : ℕ) (f : Kind → Size → P A) (b : Bits) (at e o : ℕ) {v : A} {to : ℕ} → run (framed alternate f) b at e o ≡ ok v to
    → Ends alternate f b at e o v to
unfolding framed
element-ends alternate f b at e o {v} h =
    bind_ok _ _ b at e o h λ id p hid h.
    bind_ok _ _ b p e o h λ z behind hz h.
    within_ok _ _ _ b behind e o h λ last fits h ends.
    bind_ok _ _ b behind _ past_declared h λ other q hother h.
    bind_ok _ _ b q _ past_declared h λ flag inside hflag h.
    record {
      size = z;
      behind = behind;
      inside = inside;
      mid = last;
      sized = rw (← (field_ok 4 _ b at e o hid).2) hz;
      by_kind = rw ((field_ok 4 number b at e o hid).1, ← sent (set? alternate) b behind _ past_declared hother, ends) h;
      ends = ends;
    }

-- none of an unknown element's bits behind the discard flag is looked at
pub unknown-unread : (p : Programme) (back : ℕ) (st : State) (b : Bits) (at e o : ℕ)
    → run (oa_element p back st Unknown) b at e o ≡ ok (record { known = st.known; unknown = suc st.unknown }) at
unfolding run oa_element pass_over
unknown-unread p back st b at e o = refl
