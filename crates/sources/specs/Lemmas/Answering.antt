-- An answer that refuses nothing: what it is made of, and what its steps amount to.
use Rattle.std.specs.Prelude.{◌≡◌, refl, Bool, true, false, List, [], ◌∷◌, map, ℕ, ◌≤◌, ◌<◌, eqb, leb, length, get_or}
use Rattle.std.proofs.Common.{ap, ◌∙◌, true≢false, arith, leb-false}
use Rattle.std.proofs.Math.Seq.{take-append_seam}
use Rattle.bits.specs.Language.{Res, ok, no, pick}
use Rattle.oamd.specs.Tables.{most_bytes, record_bytes}
use Rattle.oamd.specs.Payload.{Payload}
use Rattle.demands.specs.Terms.{parsed}
use Rattle.demands.specs.Lemmas.Reading.{two_to-eight}
use Rattle.sources.specs.declared.Field.{Field}
use Rattle.sources.specs.declared.Field.TheVariants.{NotActive, GainIdx, GainBits, DefaultPriority, PriorityBits, DiffX, DiffY, DiffZ, PosX, PosY, PosZ}
use Rattle.sources.specs.declared.Field.TheVariants.{DistanceSpecified, AtInfinity, DistanceIdx, ZoneIdx, Elevation, SizeIdx, SizeBits, Width, Depth, Height}
use Rattle.sources.specs.declared.Field.TheVariants.{ScreenRef, ScreenFactor, DepthIdx, Snap, ObjectDivergence, DivMode, DivTable, DivCode, Presence}
use Rattle.sources.specs.declared.Field.TheVariants.{PreciseX, PreciseY, PreciseZ}
use Rattle.sources.specs.declared.Source.{Source}
use Rattle.sources.specs.declared.Source.TheVariants.{ByField, ByProgramme, ByBasicDefault, ByRenderDefault, ByNothing, ByBlock, ByMove, ByObject}
use Rattle.sources.specs.declared.WhyStep.{WhyStep}
use Rattle.sources.specs.declared.WhyAnswer.{WhyAnswer}
use Rattle.sources.specs.Sources.{field_number, source_number}
use Rattle.sources.specs.Chain.{objects_in, blocks_in, Step}
use Rattle.sources.specs.Explaining.{told, explained, steps_told, explained_if, explaining}
use Rattle.sources.specs.Given.{is_link, last_of, handed, amount, handed_told, amount_told, steps_in}

-- no field has the number 0
named : (f : Field) → eqb (field_number f) 0 ≡ false
named NotActive = refl
named GainIdx = refl
named GainBits = refl
named DefaultPriority = refl
named PriorityBits = refl
named DiffX = refl
named DiffY = refl
named DiffZ = refl
named PosX = refl
named PosY = refl
named PosZ = refl
named DistanceSpecified = refl
named AtInfinity = refl
named DistanceIdx = refl
named ZoneIdx = refl
named Elevation = refl
named SizeIdx = refl
named SizeBits = refl
named Width = refl
named Depth = refl
named Height = refl
named ScreenRef = refl
named ScreenFactor = refl
named DepthIdx = refl
named Snap = refl
named ObjectDivergence = refl
named DivMode = refl
named DivTable = refl
named DivCode = refl
named Presence = refl
named PreciseX = refl
named PreciseY = refl
named PreciseZ = refl

-- ---- steps told

told-handed : (s : List ℕ) (q : Payload) (byte j b : ℕ) (x : Source) (v : ℕ)
    → handed_told byte (told s q byte (record { object = j; block = b; source = x })) v ≡ handed byte x v
unfolding told
told-handed s q byte j b (ByField f) v = refl
told-handed s q byte j b ByProgramme v = refl
told-handed s q byte j b ByBasicDefault v = refl
told-handed s q byte j b ByRenderDefault v = refl
told-handed s q byte j b ByNothing v = refl
told-handed s q byte j b ByBlock v = refl
told-handed s q byte j b (ByMove f d) v = rw (named f)
told-handed s q byte j b ByObject v = refl

pub told-amount : (s : List ℕ) (q : Payload) (byte : ℕ) (steps : List Step) (v : ℕ) → amount_told byte (map (told s q byte) steps) v ≡ amount byte steps v
told-amount s q byte [] v = refl
told-amount s q byte (st ∷ steps) v =
    told-handed s q byte st.object st.block st.source _ ∙ ap (handed byte st.source) (told-amount s q byte steps v)

-- the first and the last of some
pub first-map : {A B : Type 0} (f : A → B) (none : B) (blank : A) (xs : List A) → 1 ≤ length xs → get_or (map f xs) 0 none ≡ f (get_or xs 0 blank)
first-map f none blank [] l = absurd (omega arith)
first-map f none blank (x ∷ xs) l = refl

last-behind : {A B : Type 0} (f : A → B) (x : A) (xs : List A) → last_of (f x) (map f xs) ≡ f (last_of x xs)
last-behind f x [] = refl
last-behind f x (y ∷ ys) = last-behind f y ys

pub last-map : {A B : Type 0} (f : A → B) (none : B) (blank : A) (xs : List A) → 1 ≤ length xs → last_of none (map f xs) ≡ f (last_of blank xs)
last-map f none blank [] l = absurd (omega arith)
last-map f none blank (x ∷ xs) l = last-behind f x xs

-- a source that hands on nothing has a number below 6
pub end-number : (x : Source) → is_link x ≡ false → source_number x < 6
end-number (ByField f) h = omega arith
end-number ByProgramme h = omega arith
end-number ByBasicDefault h = omega arith
end-number ByRenderDefault h = omega arith
end-number ByNothing h = omega arith
end-number ByBlock h = absurd (true≢false h)
end-number (ByMove f d) h = absurd (true≢false h)
end-number ByObject h = absurd (true≢false h)

-- ---- an answer

-- the payload was read, it has the object and the block, a record has the byte, and the answer is the steps
pub record Explained (s : List ℕ) (object block byte : ℕ) : Type 0 where
  pub payload : Payload
  pub to : ℕ
  pub ran : parsed s ≡ ok payload to
  pub object_there : object < objects_in payload
  pub block_there : block < blocks_in payload
  pub byte_there : byte < record_bytes
  pub is : explaining s object block byte ≡ explained (steps_told s payload object block byte)

-- of two answers, one of which refuses
by-test : {X : Type 0} (t : Bool) (x y : WhyAnswer) → (pick t x y).refusal ≡ 0 → (x.refusal ≡ 0 → t ≡ true → X) → (y.refusal ≡ 0 → t ≡ false → X) → X
by-test true x y h f g = f h refl
by-test false x y h f g = g h refl

pub explained_of : (s : List ℕ) (object block byte : ℕ) → (explaining s object block byte).refusal ≡ 0 → Explained s object block byte
unfolding explaining
explained_of s object block byte h = by-test (leb (length s) most_bytes) _ _ h (λ h short. by-run (parsed s) refl h short) (λ h long. absurd (omega arith))
  where
    by-run : (r : Res Payload) → parsed s ≡ r → (explained_if s object block byte r).refusal ≡ 0 → leb (length s) most_bytes ≡ true → Explained s object block byte
    by-run (no r pl m) is h short = let z = two_to-eight s is in absurd (omega arith)
    by-run (ok q to) is h short =
        by-test (leb (objects_in q) object) _ _ h (λ h t. absurd (omega arith)) λ h t.
        by-test (leb (blocks_in q) block) _ _ h (λ h t. absurd (omega arith)) λ h u.
        by-test (leb record_bytes byte) _ _ h (λ h t. absurd (omega arith)) λ h w.
        record {
          payload = q;
          to = to;
          ran = is;
          object_there = leb-false (objects_in q) object t;
          block_there = leb-false (blocks_in q) block u;
          byte_there = leb-false record_bytes byte w;
          is = rw (short, is, t, u, w);
        }

pub steps-in : (steps : List WhyStep) → steps_in (explained steps) ≡ steps
steps-in steps = take-append_seam steps _
