-- What it is for a contract to admit one answer. It is said of the contract itself, as the checker makes it of the source, and not of a copy: of a function
-- `crate::f` the module `Rattle.crate.specs.contracts.f` has the contract's types (`ended`), its clauses (`clauses`) and the contract that these make (`spec`), of which
-- the function's theorem says that the function meets it.
use Rattle.std.specs.Prelude.{◌≡◌}
use Rattle.std.proofs.Common.{sym, ◌∙◌, subst}
use Rattle.std.proofs.Math.Logic.{∥∥₁_prop, ∥∥₁_map, ∥∥₁_elim}
use seplogic.Ra.Ura.{Ura}
use base.Logic.{SProp}
use base.Stored.{Coded-set}
use contract.Lifetimes.{Lfts}
use contract.Monad.{Fun}
use denote.Signature.{type_at}
use denote.Triple.Clauses.{Ended, Clauses, Lasts, at_exit, closing}
use denote.Triple.Entry.{Args, Res}
use denote.Triple.Spec.{Spec}
use types.Logic.{Logic}
use prog.Memory.{Memory}
use prog.Routine.{Routine}
use borrow.Fn.World.{World}

-- Clauses, and a contract, at every model of the logic.
abbrev pub ClausesOf : Ended → Type 2
ClausesOf T = (M : Type 1) (𝓤 : Ura M) (𝓛 : Logic 𝓤) → (Memory → SProp 𝓤) → (Routine → Fun 𝓤) → Clauses 𝓤 T

abbrev pub SpecOf : Ended → Type 2
SpecOf T = (M : Type 1) (𝓤 : Ura M) (𝓛 : Logic 𝓤) → (Memory → SProp 𝓤) → (Routine → Fun 𝓤) → Spec 𝓤 T.signature

module _ (T : Ended) (clauses : ClausesOf T) where
  abbrev K : Type 0
  K = Lfts T.signature.lifetimes

  abbrev A : K → Type 0
  A = Args T.signature

  abbrev R : K → Type 0
  R = Res T.signature

  abbrev at : (w : World) → Clauses w.𝓤 T
  at w = clauses w.M w.𝓤 w.𝓛 w.𝓜.mem w.𝓡.run

  -- The post-condition of a call with the arguments a holds of the result r and of z, the last values of what was lent to be changed.
  pub record Ensured (w : World) (κs : K) (a : A κs) (r : R κs) (z : Lasts T κs a) : Type 1 where
    pub ghost : (at w κs a).ghost
    pub owned : w.M
    pub holds : ((at w κs a).ensures ghost r (at_exit T κs a z)).holds owned

  -- The contract is the one that these clauses make.
  abbrev pub Stated : SpecOf T → Type 2
  Stated spec = (w : World) → spec w.M w.𝓤 w.𝓛 w.𝓜.mem w.𝓡.run ≡ closing w.𝓛 T (at w)

  -- Two calls with the same inputs, of whose ends no more is known than the post-condition, have the same outcome.
  pub record OneAnswer (spec : SpecOf T) {I : Type 0} (inputs : (κs : K) → A κs → I)
      {O : Type 0} (outcome : (κs : K) (a : A κs) → R κs → Lasts T κs a → O) : Type 2 where
    pub stated : Stated spec
    pub once : (w w' : World) (κs κs' : K) (a : A κs) (a' : A κs') (r : R κs) (r' : R κs') (z : Lasts T κs a) (z' : Lasts T κs' a')
        → inputs κs a ≡ inputs κs' a' → Ensured w κs a r z → Ensured w' κs' a' r' z' → outcome κs a r z ≡ outcome κs' a' r' z'

  -- Φ relates the inputs to every outcome of which the post-condition holds.
  abbrev pub Gives : {I O : Type 0} → ((κs : K) → A κs → I) → ((κs : K) (a : A κs) → R κs → Lasts T κs a → O) → (I → O → Type 0) → Type 2
  Gives inputs outcome Φ =
      (w : World) (κs : K) (a : A κs) (r : R κs) (z : Lasts T κs a) → Ensured w κs a r z → ∥ Φ (inputs κs a) (outcome κs a r z) ∥₁

module _ {T : Ended} {clauses : ClausesOf T} {spec : SpecOf T} {I O : Type 0} {inputs : (κs : K T clauses) → A T clauses κs → I}
    {outcome : (κs : K T clauses) (a : A T clauses κs) → R T clauses κs → Lasts T κs a → O}
    (set : K T clauses → IsSet O) (stated : Stated T clauses spec) where
  -- A contract that relates the outcome to the inputs admits one answer, if the relation does.
  pub by_relation : (Φ : I → O → Type 0) → ((i : I) (o o' : O) → Φ i o → Φ i o' → o ≡ o') → Gives T clauses inputs outcome Φ
      → OneAnswer T clauses spec inputs outcome
  by_relation Φ one h = record {
    stated = stated;
    once = λ w w' κs κs' a a' r r' z z' same e e'.
        ∥∥₁_elim (h w κs a r z e) (set κs _ _) λ p. ∥∥₁_elim (h w' κs' a' r' z' e') (set κs _ _) λ q.
        one (inputs κs a) _ _ p (subst (λ (i : I). Φ i (outcome κs' a' r' z')) (sym same) q);
  }

  -- So does a contract that gives the outcome by an equation, whatever it is computed from.
  pub by_equation : (f : I → O) → Gives T clauses inputs outcome (λ i o. o ≡ f i) → OneAnswer T clauses spec inputs outcome
  by_equation f = by_relation (λ i o. o ≡ f i) (λ i o o' p q. p ∙ sym q)

-- What follows from the fact that a clause states; and from the facts of two clauses.
pub said : {φ ψ : Type 0} {E : Type 1} → (φ → ψ) → ∥ (φ × E) ∥₁ → ∥ ψ ∥₁
said f h = ∥∥₁_map h (λ t. f t.0)

pub both-said : {M : Type 1} {φ ψ χ : Type 0} {S : M → M → Type 1} {E F : M → Type 1} → (φ → ψ → χ)
    → ∥ ((m : M) × (n : M) × S m n × ∥ (φ × E m) ∥₁ × ∥ (ψ × F n) ∥₁) ∥₁ → ∥ χ ∥₁
both-said f h = ∥∥₁_elim h ∥∥₁_prop λ t. ∥∥₁_elim t.3 ∥∥₁_prop λ p. ∥∥₁_map t.4 λ q. f p.0 q.0

-- What a function's result denotes is a set, whatever its type.
pub result-set : (T : Ended) (κs : Lfts T.signature.lifetimes) → IsSet (Res T.signature κs)
result-set T κs = Coded-set (type_at T.signature.result κs).coded

-- Inputs one beside the other. Of a reference it is what lies behind it (`now`): where it lies is no input.
abbrev pub ◌beside◌ : {X Y : Type 0} → X → Y → X × Y
x beside y = (x, y)

infixr 20 ◌beside◌
