-- The steps of an answer: what each names, and where.
use Rattle.std.specs.Prelude.{◌≡◌, refl, List, [], ◌∷◌, map, ℕ, zero, suc, ◌-◌, ◌≤◌, get_or}
use Rattle.std.proofs.Common.{sym, ap, ◌∙◌, subst, arith}
use Rattle.bits.specs.Terms.{Every}
use Rattle.sources.specs.declared.Field.{Field}
use Rattle.sources.specs.declared.Field.TheVariants.{NotActive, GainIdx, GainBits, DefaultPriority, PriorityBits, DiffX, DiffY, DiffZ, PosX, PosY, PosZ}
use Rattle.sources.specs.declared.Field.TheVariants.{DistanceSpecified, AtInfinity, DistanceIdx, ZoneIdx, Elevation, SizeIdx, SizeBits, Width, Depth, Height}
use Rattle.sources.specs.declared.Field.TheVariants.{ScreenRef, ScreenFactor, DepthIdx, Snap, ObjectDivergence, DivMode, DivTable, DivCode, Presence}
use Rattle.sources.specs.declared.Field.TheVariants.{PreciseX, PreciseY, PreciseZ}
use Rattle.sources.specs.declared.Source.{Source}
use Rattle.sources.specs.declared.Source.TheVariants.{ByField, ByProgramme, ByBasicDefault, ByRenderDefault, ByNothing, ByBlock, ByMove, ByObject}
use Rattle.sources.specs.Sources.{field_number}
use Rattle.sources.specs.Where.{field_bit}
use Rattle.sources.specs.Chain.{Step, behind, chain}
use Rattle.sources.specs.Explaining.{source_bit, source_field}
use Rattle.sources.specs.Lemmas.Standing.{Named}

-- ---- the numbers of fields

-- in the order of their numbers
fields : List Field
fields =
    NotActive ∷ GainIdx ∷ GainBits ∷ DefaultPriority ∷ PriorityBits ∷ DiffX ∷ DiffY ∷ DiffZ ∷ PosX ∷ PosY ∷ PosZ ∷ DistanceSpecified ∷ AtInfinity
    ∷ DistanceIdx ∷ ZoneIdx ∷ Elevation ∷ SizeIdx ∷ SizeBits ∷ Width ∷ Depth ∷ Height ∷ ScreenRef ∷ ScreenFactor ∷ DepthIdx ∷ Snap ∷ ObjectDivergence
    ∷ DivMode ∷ DivTable ∷ DivCode ∷ Presence ∷ PreciseX ∷ PreciseY ∷ PreciseZ ∷ []

-- a field by its number
numbered : (f : Field) → get_or fields (field_number f - 1) NotActive ≡ f
unfolding fields
numbered NotActive = refl
numbered GainIdx = refl
numbered GainBits = refl
numbered DefaultPriority = refl
numbered PriorityBits = refl
numbered DiffX = refl
numbered DiffY = refl
numbered DiffZ = refl
numbered PosX = refl
numbered PosY = refl
numbered PosZ = refl
numbered DistanceSpecified = refl
numbered AtInfinity = refl
numbered DistanceIdx = refl
numbered ZoneIdx = refl
numbered Elevation = refl
numbered SizeIdx = refl
numbered SizeBits = refl
numbered Width = refl
numbered Depth = refl
numbered Height = refl
numbered ScreenRef = refl
numbered ScreenFactor = refl
numbered DepthIdx = refl
numbered Snap = refl
numbered ObjectDivergence = refl
numbered DivMode = refl
numbered DivTable = refl
numbered DivCode = refl
numbered Presence = refl
numbered PreciseX = refl
numbered PreciseY = refl
numbered PreciseZ = refl

same-field : (f g : Field) → field_number f ≡ field_number g → g ≡ f
same-field f g e = sym (numbered g) ∙ ap (λ (n : ℕ). get_or fields (n - 1) NotActive) (sym e) ∙ numbered f

-- 0 is none
not_none : (f : Field) → field_number f ≡ 0 → ⊥
unfolding fields
not_none f e =
    let first : NotActive ≡ f = ap (λ (n : ℕ). get_or fields (n - 1) NotActive) (sym e) ∙ numbered f in
    omega (arith, ap field_number first)

-- ---- a step

-- what holds of the field that a source names, at its bit, holds of the field of the step's number, at the step's bit
pub by_number : (R : ℕ → Field → Type 0) (s : List ℕ) (n j b : ℕ) (x : Source) → Named (λ f. R (field_bit s n j b f) f) x
    → (f : Field) → field_number f ≡ source_field x → R (source_bit s n j b x) f
by_number R s n j b (ByField g) h f e = subst (R (field_bit s n j b g)) (same-field f g e) h
by_number R s n j b ByProgramme h f e = absurd (not_none f e)
by_number R s n j b ByBasicDefault h f e = absurd (not_none f e)
by_number R s n j b ByRenderDefault h f e = absurd (not_none f e)
by_number R s n j b ByNothing h f e = absurd (not_none f e)
by_number R s n j b ByBlock h f e = absurd (not_none f e)
by_number R s n j b (ByMove g d) h f e = subst (R (field_bit s n j b g)) (same-field f g e) h
by_number R s n j b ByObject h f e = absurd (not_none f e)

-- ---- all steps

-- a step of a chain from block b of object j back
pub record Back (source : ℕ → ℕ → Source) (j b : ℕ) (st : Step) : Type 0 where
  pub object : st.object ≤ j
  pub block : st.block ≤ b
  pub is : st.source ≡ source st.object st.block

further : (source : ℕ → ℕ → Source) (j b j' b' : ℕ) → j' ≤ j → b' ≤ b → (steps : List Step) → Every (Back source j' b') steps → Every (Back source j b) steps
further source j b j' b' l m [] h = tt
further source j b j' b' l m (st ∷ steps) h =
    let x = h.0 in
    (record { object = omega arith; block = omega arith; is = x.is }, further source j b j' b' l m steps h.1)

pub all_back : (source : ℕ → ℕ → Source) (fuel j b : ℕ) → Every (Back source j b) (chain source fuel j b)
unfolding chain
all_back source zero j b = tt
all_back source (suc fuel) j b =
    let block = chain source fuel j (b - 1) in
    let object = chain source fuel (j - 1) b in (
      record { object = omega arith; block = omega arith; is = refl },
      go (source j b) block object (further source j b j (b - 1) (omega arith) (omega arith) block (all_back source fuel j (b - 1)))
          (further source j b (j - 1) b (omega arith) (omega arith) object (all_back source fuel (j - 1) b)),
    )
  where
    go : (x : Source) (block object : List Step) → Every (Back source j b) block → Every (Back source j b) object → Every (Back source j b) (behind x block object)
    go (ByField f) block object h g = tt
    go ByProgramme block object h g = tt
    go ByBasicDefault block object h g = tt
    go ByRenderDefault block object h g = tt
    go ByNothing block object h g = tt
    go ByBlock block object h g = h
    go (ByMove f d) block object h g = h
    go ByObject block object h g = g

pub every_map : {A B : Type 0} (f : A → B) (Q : A → Type 0) (R : B → Type 0) → ((a : A) → Q a → R (f a)) → (xs : List A) → Every Q xs → Every R (map f xs)
every_map f Q R h [] e = tt
every_map f Q R h (x ∷ xs) e = (h x e.0, every_map f Q R h xs e.1)
