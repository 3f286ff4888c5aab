-- An element that salvage drops is a whole element of a known kind, and its refusal lies in it.
use Rattle.std.specs.Prelude.{refl, List, ℕ, ◌*◌, length}
use Rattle.std.proofs.Common.{sym, subst}
use Rattle.bits.specs.Language.{bit}
use Rattle.bits.specs.Terms.{Every}
use Rattle.oamd.specs.Sift.{Sifting, Sieve}
use Rattle.salvaging.specs.Promises.{Sieved, gone_of, LiesIn}
use Rattle.salvaging.specs.Lemmas.Order.{opened}
use Rattle.salvaging.specs.Lemmas.Places.{element-lies, by-sift}

pub lies_in : (s : List ℕ) (x : Sieve) → Sieved s x → Every (LiesIn s x) (gone_of x)
lies_in s x h =
    let alternate = x.header.alternate in
    let b = bit s in
    let e : ℕ = 8 * length s in
    subst (λ (y : Sifting). Every (LiesIn s x) y.gone) (sym (opened s x h).sifted)
    (by-sift x.header.programme alternate b e (λ y. Every (LiesIn s x) y.gone) (λ st at. tt) (λ r pl m i. tt)
    (λ st at to r pl m f y refused whole rest.
    let (known, lies) = element-lies x.header.programme alternate st b at e refused whole in
    (record { is = f; whole = whole; known = known; named = refl; lies = lies }, rest)) x.count _ x.body)
