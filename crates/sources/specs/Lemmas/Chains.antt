-- A chain of sources, each of which gives the byte: it ends, and its end amounts to the byte.
use Rattle.std.specs.Prelude.{◌≡◌, false, List, [], ◌∷◌, length, get_or}
use Rattle.std.proofs.Math.Path.{refl}
use Rattle.std.proofs.Common.{sym, ap, ◌∙◌, arith}
use Prim.Native.Nat.{ℕ, zero, suc, ◌+◌, ◌-◌, ◌≤◌, ◌<◌}
use Rattle.sources.specs.declared.Source.{Source}
use Rattle.sources.specs.declared.Source.TheVariants.{ByField, ByProgramme, ByBasicDefault, ByRenderDefault, ByNothing, ByBlock, ByMove, ByObject}
use Rattle.sources.specs.Chain.{Step, behind, chain}
use Rattle.sources.specs.Given.{gain_byte, Follows, is_link, last_of, handed, amount}

-- Steps from block b of object j back, where side objects and no more can be gone back: they begin there; they end, in the record that their last step names, with its source; and the
-- value at their end amounts to that at their beginning.
pub record Led (byte : ℕ) (source : ℕ → ℕ → Source) (value : ℕ → ℕ → ℕ) (side j b : ℕ) (steps : List Step) : Type 0 where
  pub some : 1 ≤ length steps
  pub few : length steps ≤ side + b + 1
  pub first : (none : Step) → ((get_or steps 0 none).object ≡ j) × ((get_or steps 0 none).block ≡ b)
  pub near : (none : Step) → ((last_of none steps).object ≤ j) × ((last_of none steps).block ≤ b)
  pub last : (none : Step) → ((last_of none steps).source ≡ source (last_of none steps).object (last_of none steps).block) × (is_link (last_of none steps).source ≡ false)
  pub amounts : (none : Step) → amount byte steps (value (last_of none steps).object (last_of none steps).block) ≡ value j b

module _ (byte : ℕ) (source : ℕ → ℕ → Source) (value own : ℕ → ℕ → ℕ) (objects blocks : ℕ)
    (follows : (j b : ℕ) → j < objects → b < blocks → Follows (0 < b) (0 < j) byte (value j (b - 1)) (value (j - 1) b) (own j b) (value j b) (source j b))
    (side : ℕ → ℕ) (nearer : (j : ℕ) → 0 < j → byte ≡ gain_byte → side (j - 1) < side j) where
  abbrev Leads : ℕ → ℕ → List Step → Type 0
  Leads j b steps = Led byte source value (side j) j b steps

  abbrev step : ℕ → ℕ → Source → Step
  step j b x = record { object = j; block = b; source = x }

  -- a step before others
  linked : (j b j' b' : ℕ) (x : Source) (steps : List Step) → j' ≤ j → b' ≤ b → suc (side j' + b') ≤ side j + b → handed byte x (value j' b') ≡ value j b → Leads j' b' steps
      → Leads j b (step j b x ∷ steps)
  linked j b j' b' x steps object block fewer same h =
      let n = h.some in
      let l = h.few in
      record {
        some = omega arith;
        few = omega arith;
        first = λ none. (refl, refl);
        near = λ none. let near = h.near (step j b x) in (omega arith, omega arith);
        last = λ none. h.last (step j b x);
        amounts = λ none. ap (handed byte x) (h.amounts (step j b x)) ∙ same;
      }

  ended : (j b : ℕ) (x : Source) → x ≡ source j b → is_link x ≡ false → handed byte x (value j b) ≡ value j b → Leads j b (step j b x ∷ [])
  ended j b x is stop same = record {
    some = omega arith;
    few = omega arith;
    first = λ none. (refl, refl);
    near = λ none. (omega arith, omega arith);
    last = λ none. (is, stop);
    amounts = λ none. same;
  }

  pub led : (fuel j b : ℕ) → j < objects → b < blocks → side j + b < fuel → Led byte source value (side j) j b (chain source fuel j b)
  unfolding chain
  led zero j b l m n = absurd (omega arith)
  led (suc fuel) j b l m n = go (source j b) refl (follows j b l m)
      (λ p. led fuel j (b - 1) l (omega arith) (omega arith)) (λ p e. let q = nearer j p e in led fuel (j - 1) b (omega arith) m (omega arith))
    where
      go : (x : Source) → x ≡ source j b → Follows (0 < b) (0 < j) byte (value j (b - 1)) (value (j - 1) b) (own j b) (value j b) x
          → (0 < b → Leads j (b - 1) (chain source fuel j (b - 1))) → (0 < j → byte ≡ gain_byte → Leads (j - 1) b (chain source fuel (j - 1) b))
          → Leads j b (step j b x ∷ behind x (chain source fuel j (b - 1)) (chain source fuel (j - 1) b))
      go (ByField f) is h block object = ended j b (ByField f) is refl refl
      go ByProgramme is h block object = ended j b ByProgramme is refl refl
      go ByBasicDefault is h block object = ended j b ByBasicDefault is refl refl
      go ByRenderDefault is h block object = ended j b ByRenderDefault is refl refl
      go ByNothing is h block object = ended j b ByNothing is refl refl
      go ByBlock is h block object = let p = h.0 in linked j b j (b - 1) ByBlock _ (omega arith) (omega arith) (omega arith) (sym h.1) (block p)
      go (ByMove f d) is h block object = let p = h.0 in linked j b j (b - 1) (ByMove f d) _ (omega arith) (omega arith) (omega arith) (sym h.2) (block p)
      go ByObject is h block object =
          let p = nearer j h.0 h.1 in
          linked j b (j - 1) b ByObject _ (omega arith) (omega arith) (omega arith) (sym h.2) (object h.0 h.1)
