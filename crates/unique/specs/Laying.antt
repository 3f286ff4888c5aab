-- The public functions of laying: the pen, and the bytes that the lent buffer then holds.
use Rattle.std.specs.Prelude.{◌≡◌, refl, List, ℕ}
use Rattle.std.proofs.Common.{sym, ◌∙◌}
use base.Stored.{Coded-set, coded_via, coded_ℕ, coded×, coded_list}
use Rattle.laying.specs.contracts.finish as finish
use Rattle.laying.specs.contracts.put as put
use Rattle.laying.specs.contracts.start as start
use Rattle.laying.specs.declared.Pen.{Pen}
use Rattle.laying.specs.Laying.{Put, blank, set_wide}
use Rattle.unique.specs.OneAnswer.{OneAnswer, by_equation, by_relation, result-set, said, ◌beside◌}
use Rattle.unique.specs.Sets.{bytes-set}

-- the pen, and the buffer
pub record Left : Type 0 where
  pub pen : Pen
  pub out : List ℕ

left-set : IsSet Left
left-set =
    Coded-set
    (coded_via (coded× (coded× coded_ℕ (coded× coded_ℕ coded_ℕ)) (coded_list coded_ℕ))
    (λ (l : Left). (l.pen.word beside l.pen.held.0 beside l.pen.stored.0) beside l.out)
    (λ x y h i. record { pen = record { word = (h i).0.0; held = record { 0 = (h i).0.1.0 }; stored = record { 0 = (h i).0.1.1 } }; out = (h i).1 }))

-- Two that were left by putting the same field with the same pen into the same buffer are the same.
put-once : {I : Type 0} (width : I → ℕ) (out : I → List ℕ) (pen : I → Pen) (value : I → ℕ) (i : I) (x y : Left)
    → Put (width i) (out i) x.out (pen i) x.pen (value i) → Put (width i) (out i) y.out (pen i) y.pen (value i) → x ≡ y
put-once width out pen value i x y f g =
    let pens : x.pen ≡ y.pen = f.pen ∙ sym g.pen in
    let same : x.out ≡ y.out = f.same ∙ sym g.same in
    λ j. record { pen = pens j; out = same j }

pub one-put : OneAnswer put.ended (λ M 𝓤 𝓛. put.clauses 𝓛) (λ M 𝓤 𝓛. put.spec 𝓛) (λ κs a. a.0.now beside a.1.0 beside a.1.1.0 beside a.1.1.1.0)
    {O = Left} (λ κs a r z. record { pen = r; out = z.0 })
one-put =
    by_relation (λ κs. left-set) (λ w. refl) _ (put-once (λ i. i.1.1.0) (λ i. i.0) (λ i. i.1.0) (λ i. i.1.1.1))
    (λ w κs a r z p. said (λ h. h) p.holds)

pub one-start : OneAnswer start.ended (λ M 𝓤 𝓛. start.clauses 𝓛) (λ M 𝓤 𝓛. start.spec 𝓛) (λ κs a. a) (λ κs a r z. r)
one-start = by_equation (result-set start.ended) (λ w. refl) (λ i. blank) (λ w κs a r z p. said (λ h. h) p.holds)

pub one-finish : OneAnswer finish.ended (λ M 𝓤 𝓛. finish.clauses 𝓛) (λ M 𝓤 𝓛. finish.spec 𝓛) (λ κs a. a.0.now beside a.1) (λ κs a r z. z.0)
one-finish = by_equation (λ κs. bytes-set) (λ w. refl) (λ i. set_wide i.0 i.1.0.stored.0 i.1.0.word) (λ w κs a r z p. said (λ h. h) p.holds)
