-- Whether an accepted payload has a trim element goes by the kinds of its known elements.
use Rattle.std.specs.Prelude.{◌≡◌, Bool, true, false, ℕ, length}
use Rattle.std.proofs.Common.{sym, ◌∙◌}
use Rattle.std.proofs.Math.Path.{ap}
use mathlib.Core.List.{List, [], ◌∷◌, map}
use Rattle.std.proofs.Math.Option.{Option}
use Rattle.bits.specs.Language.{ok, pick, Bits, run, past_declared}
use Rattle.bits.specs.Steps.{bind_ok, give_ok}
use Rattle.bits.specs.Writes.{listed}
use Rattle.oamd.specs.declared.Kind.{Kind}
use Rattle.oamd.specs.declared.Kind.TheVariants.{Unknown, Object, Trim, Extended}
use Rattle.oamd.specs.declared.Programme.{Programme}
use Rattle.oamd.specs.Trim.{TrimTable, trim_element, trim_of}
use Rattle.oamd.specs.Element.{Known, nothing, fields}
use Rattle.oamd.specs.Payload.{Payload, tables}
use Rattle.demands.specs.Terms.{parsed, tables_of}
use Rattle.demands.specs.Skeleton.{Body, Outline, outline, known, given}
use Rattle.demands.proofs.Lemmas.Skeletons.{Step, Steps, outlined}
use Rattle.own.specs.Own.{kinds_of, order_of}

abbrev is_trim : Kind → Bool
is_trim Unknown = false
is_trim Object = false
is_trim Trim = true
is_trim Extended = false

-- byte 0 of the trim table behind elements of these kinds
abbrev pub marked : List Kind → ℕ → ℕ
marked [] v = v
marked (k ∷ ks) v = marked ks (pick (is_trim k) 1 v)

element_there : (n : ℕ) (b : Bits) (at e o : ℕ) {t : TrimTable} {to : ℕ} → run (trim_element n) b at e o ≡ ok t to → t.present ≡ 1
unfolding trim_element
element_there n b at e o h =
    bind_ok _ _ b at e o h λ warp p1 h1 h.
    bind_ok _ _ b p1 e o h λ reserved p2 h2 h.
    bind_ok _ _ b p2 e o h λ mode p3 h3 h.
    bind_ok _ _ b p3 e o h λ configs p4 h4 h.
    bind_ok _ _ b p4 e o h λ flag p5 h5 h.
    bind_ok _ _ b p5 e o h λ disabled p6 h6 h.
    ap (λ (t : TrimTable). t.present) (sym (give_ok _ b p6 e o h).0)

module _ (p : Programme) (n : ℕ) where
  abbrev there : Known → ℕ
  there k = (trim_of n k.trim).present

  step_there : (k : Kind) (l : List ℕ) (before after : Known) → Step p k l before after → there after ≡ pick (is_trim k) 1 (there before)
  unfolding Step fields trim_of
  step_there Unknown l before after x = ap there (sym x)
  step_there Object l before after x = bind_ok _ _ (listed l) 0 (length l) past_declared x.ran λ v mid h g. ap there (sym (give_ok _ (listed l) mid (length l) past_declared g).0)
  step_there Trim l before after x =
      bind_ok _ _ (listed l) 0 (length l) past_declared x.ran λ v mid h g.
      ap there (sym (give_ok _ (listed l) mid (length l) past_declared g).0) ∙ element_there _ (listed l) 0 (length l) past_declared h
  step_there Extended l before after x =
      bind_ok _ _ (listed l) 0 (length l) past_declared x.ran λ v mid h g. ap there (sym (give_ok _ (listed l) mid (length l) past_declared g).0)

  steps_there : (xs : List Body) (before after : Known) → Steps p xs before after → there after ≡ marked (map (λ (x : Body). x.kind) xs) (there before)
  unfolding Steps
  steps_there [] before after h = ap there (sym h)
  steps_there (x ∷ xs) before after h =
      steps_there xs h.0 after h.2 ∙ ap (marked (map (λ (x : Body). x.kind) xs)) (step_there x.kind x.bits before h.0 h.1)

-- of an accepted payload
pub present_by : (s : List ℕ) {q : Payload} {to : ℕ} → parsed s ≡ ok q to → (tables_of q).trim.present ≡ marked (order_of s) 0
unfolding outline tables trim_of
present_by s {q} h =
    let x = outlined s h in
    steps_there x.is.header.programme q.programme.objects (known x.is.elements) nothing q.known x.steps
    ∙ ap (λ (o : Option Outline). marked (kinds_of o) 0) (sym (ap given x.ran))
