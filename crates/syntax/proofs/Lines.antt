-- Calls in a line: what each of them read, put one behind the other.
use mathlib.Core.Path.{◌≡◌, refl}
use mathlib.Core.Bool.{Bool, true, false, ◌||◌}
use Prim.Native.Nat.{ℕ}
use Rattle.bits.specs.declared.Cur.{Cur}
use Rattle.bits.specs.declared.Limit.{Limit}
use Rattle.bits.specs.Language.{Bits, P, ◌>>=◌, pick}
use Rattle.bits.specs.View.{Reads, valued}
use Rattle.bits.proofs.Sticky.{bind, reading}

-- `first ▸ second ▸ .. ▸ plain`
infixr 20 ◌▸◌
pub ◌▸◌ : {A B : Type 0} {p : P A} {k : A → P B} {b : Bits} {c d f : Cur} {l : Limit} {v : A} {w : B}
    → Reads p b c l v d → Reads (k v) b d l w f → Reads (p >>= k) b c l w f
r ▸ s = bind r s

-- the value, by another name
pub worth : {A : Type 0} {p : P A} {b : Bits} {c d : Cur} {l : Limit} {v w : A} → v ≡ w → Reads p b c l w d → Reads p b c l v d
worth h r = rw h r

-- no reader looks at the value that the cursor held before
pub revalued : {A : Type 0} {p : P A} {b : Bits} {c d : Cur} {l : Limit} {x : ℕ} {v : A} → Reads p b (valued c x) l v d → Reads p b c l v d
revalued r = record { same = r.same; handed = r.handed }

-- of two tests one holds
pub either-of : (a b : Bool) → (a || b) ≡ pick a true b
either-of true b = refl
either-of false b = refl

-- a rule for `search`: a reader that runs only if a test holds, where a call made the test
pub then_if : (A B : Type 0) (p q : P A) (k : A → P B) (b : Bits) (c d f : Cur) (l : Limit) (v : A) (w : B) (on t : Bool)
    → on ≡ t → Reads (pick on p q) b c l v d → Reads (k v) b d l w f → Reads (pick t p q >>= k) b c l w f
then_if A B p q k b c d f l v w on t h r s = bind (rw h at r) s

-- closes a line of up to four calls
pub ruleset lines = (reading, then_if)
