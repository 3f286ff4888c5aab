-- The loop over a chain: the steps so far, and what is left of it. Assumes nothing.
use mathlib.Core.Path.{◌≡◌, refl, sym, ap, ap₂, ◌∙◌, subst}
use Rattle.std.specs.Prelude.{Option, None, Some}
use mathlib.Core.List.{List, [], ◌∷◌, ◌++◌, append_assoc, append-nil, map}
use Prim.Native.Nat.{ℕ, zero, suc, ◌+◌, ◌-◌, ◌*◌, ◌≤◌, ◌<◌}
use native.Mathlib.Omega.{arith}
use borrow.Author.Tests.{ne_eqb}
use native.Mathlib.Nat.{mul-le-mul}
use lib.ListN.{length, get_or, set, replicate, drop, length-append}
use lib.Seq.{get_or-take, get_or-drop}
use Rattle.oamd.specs.Tables.{record_bytes, record_stride}
use Rattle.oamd.specs.Programme.{filled}
use Rattle.oamd.specs.Record.{record_bytes_of}
use Rattle.record.specs.Laws.{record-bytes}
use Rattle.syntax.proofs.Filled.{filled_next}
use Rattle.demands.specs.Terms.{tables_of}
use Rattle.sources.specs.declared.Source.{Source}
use Rattle.sources.specs.declared.Source.TheVariants.{ByField, ByProgramme, ByBasicDefault, ByRenderDefault, ByNothing, ByBlock, ByMove, ByObject}
use Rattle.sources.specs.declared.WhyStep.{WhyStep}
use Rattle.sources.specs.declared.WhyAnswer.{WhyAnswer}
use Rattle.sources.specs.declared.Told.{Told}
use Rattle.sources.specs.declared.Link.{Link}
use Rattle.sources.specs.Chain.{objects_in, blocks_in, no_record, record_at, source_at, Step, behind, chain}
use Rattle.sources.specs.Explaining.{most_steps, no_step, value_at, told, answer_of, explained, steps_told}
use Rattle.sources.specs.Lemmas.Records.{among}
use Rattle.sources.specs.Asked.{payload_in, most_records, Asked, Recorded, told_at, step_of, if_left, link_of}

-- ---- the record of a block

-- a block before, or an object
pub asked_back : {s : List ℕ} {n j b j' b' : ℕ} → Asked s n j b → j' ≤ j → b' ≤ b → Asked s n j' b'
asked_back a l m = record {
  accepted = a.accepted;
  blocks = a.blocks;
  objects = a.objects;
  few = a.few;
  object = omega (arith, a.object);
  block = omega (arith, a.block);
}

pub record Among (s : List ℕ) (n j b : ℕ) : Type 0 where
  pub index : j * n + b < objects_in (payload_in s) * n
  pub few : objects_in (payload_in s) * n ≤ most_records

pub among-asked : {s : List ℕ} {n j b : ℕ} → Asked s n j b → Among s n j b
among-asked {s} {n} {j} {b} a = record {
  index = among (objects_in (payload_in s)) n j b a.object a.block;
  few = mul-le-mul a.objects a.few;
}

-- it stands in a buffer with all records
pub record_fits : {s records : List ℕ} {n j b : ℕ} → Asked s n j b → Recorded s records → record_stride * (j * n + b) + record_stride ≤ length records
record_fits {s} {records} {n} {j} {b} a r =
    let m : objects_in (payload_in s) * n ≡ objects_in (payload_in s) * blocks_in (payload_in s) = ap (λ (k : ℕ). objects_in (payload_in s) * k) a.blocks in
    omega (arith, (among-asked a).index, r.room)

-- a byte of it
pub value_is : {s records : List ℕ} {n j b byte : ℕ} → Asked s n j b → Recorded s records → byte < record_bytes
    → get_or records (record_stride * (j * n + b) + byte) 0 ≡ value_at (payload_in s) byte j b
unfolding value_at record_at
value_is {s} {records} {n} {j} {b} {byte} a r h =
    let i : ℕ = j * n + b in
    let at : ℕ = record_stride * i in
    let m : objects_in (payload_in s) * n ≡ objects_in (payload_in s) * blocks_in (payload_in s) = ap (λ (k : ℕ). objects_in (payload_in s) * k) a.blocks in
    let x = among-asked a in
    let l : i < objects_in (payload_in s) * blocks_in (payload_in s) = omega (arith, x.index) in
    let room : at + record_bytes ≤ length records = omega (arith, record_fits a r) in
    sym (get_or-drop at records byte 0) ∙ sym (get_or-take record_bytes (drop at records) byte 0 h)
    ∙ ap (λ (bytes : List ℕ). get_or bytes byte 0) (sym (record-bytes records at room) ∙ ap record_bytes_of (r.same i l))
    ∙ ap (λ (k : ℕ). get_or (record_bytes_of (get_or (tables_of (payload_in s)).records (j * k + b) no_record)) byte 0) a.blocks

-- ---- a step, and what follows it

module _ (s : List ℕ) (byte : ℕ) where
  abbrev from : ℕ → ℕ → Source
  from = source_at s (payload_in s) byte

  abbrev tell : Step → WhyStep
  tell = told s (payload_in s) byte

  -- the steps from a link on
  abbrev steps_at : Option Link → List Step
  steps_at None = []
  steps_at (Some k) = chain from (suc k.left) k.object k.block

  left-at : (left j b : ℕ) → chain from left j b ≡ steps_at (if_left left (record { object = j; block = b; left = left - 1 }))
  unfolding chain
  left-at zero j b = refl
  left-at (suc n) j b = rw (ne_eqb (suc n) 0 (λ h. omega (arith, h))) (let e : n ≡ suc n - 1 = omega arith in ap (λ (m : ℕ). chain from (suc m) j b) e)

  -- behind a source the chain goes on where its link says
  linked : (x : Source) (left j b : ℕ) → behind x (chain from left j (b - 1)) (chain from left (j - 1) b) ≡ steps_at (link_of x j b left)
  linked (ByField f) left j b = refl
  linked ByProgramme left j b = refl
  linked ByBasicDefault left j b = refl
  linked ByRenderDefault left j b = refl
  linked ByNothing left j b = refl
  linked ByBlock left j b = left-at left j (b - 1)
  linked (ByMove f d) left j b = left-at left j (b - 1)
  linked ByObject left j b = left-at left (j - 1) b

  step_is : (n j b value : ℕ) → n ≡ blocks_in (payload_in s) → value ≡ value_at (payload_in s) byte j b
      → step_of (told_at s n byte j b) j b value ≡ tell (record { object = j; block = b; source = from j b })
  unfolding told_at told
  step_is n j b value e h = rw (e, h)

-- ---- the loop

-- how many steps the array still needs room for
abbrev pub steps_left : Option Link → ℕ
steps_left None = 0
steps_left (Some k) = suc k.left

-- a link leads to an object and a block up to these
abbrev pub Within : ℕ → ℕ → Option Link → Type 0
Within object block None = Unit {0}
Within object block (Some k) = (k.object ≤ object) × (k.block ≤ block)

-- the steps that stand in the array, and what is left: the chain from the link on
pub record Chaining (s : List ℕ) (object block byte : ℕ) (steps : List WhyStep) (count : ℕ) (next : Option Link) : Type 0 where
  pub done : List WhyStep
  pub many : length done ≡ count
  pub holds : steps ≡ filled most_steps no_step done
  pub rest : done ++ map (tell s byte) (steps_at s byte next) ≡ steps_told s (payload_in s) object block byte
  pub fuel : count + steps_left next ≤ object + block + 1
  pub within : Within object block next

pub chaining_start : (s : List ℕ) (object block byte left : ℕ) → left ≡ object + block
    → Chaining s object block byte (replicate most_steps no_step) 0 (Some (record { object = object; block = block; left = left }))
unfolding steps_told
chaining_start s object block byte left h = record {
  done = [];
  many = refl;
  holds = refl;
  rest = let e : suc left ≡ object + block + 1 = omega arith in rw e refl;
  fuel = omega arith;
  within = (omega arith, omega arith);
}

-- the link behind a source leads back, or there is none
abbrev Back : ℕ → ℕ → ℕ → Option Link → Type 0
Back left object block next = (steps_left next ≤ left) × Within object block next

back-left : (left j b object block : ℕ) → j ≤ object → b ≤ block → Back left object block (if_left left (record { object = j; block = b; left = left - 1 }))
back-left zero j b object block h l = (omega arith, tt)
back-left (suc n) j b object block h l = rw (ne_eqb (suc n) 0 (λ h. omega (arith, h))) (omega arith, (h, l))

back : (x : Source) (left j b object block : ℕ) → j ≤ object → b ≤ block → Back left object block (link_of x j b left)
back (ByField f) left j b object block h l = (omega arith, tt)
back ByProgramme left j b object block h l = (omega arith, tt)
back ByBasicDefault left j b object block h l = (omega arith, tt)
back ByRenderDefault left j b object block h l = (omega arith, tt)
back ByNothing left j b object block h l = (omega arith, tt)
back ByBlock left j b object block h l = back-left left j (b - 1) object block h (omega arith)
back (ByMove f d) left j b object block h l = back-left left j (b - 1) object block h (omega arith)
back ByObject left j b object block h l = back-left left (j - 1) b object block (omega arith) l

module _ {s : List ℕ} {object block byte : ℕ} {steps : List WhyStep} {count : ℕ} {link : Link} (x : Chaining s object block byte steps count (Some link)) where
  pub chaining_step : {n value : ℕ} {step : WhyStep} {t : Told} {next : Option Link} → n ≡ blocks_in (payload_in s) → count < most_steps
      → t ≡ told_at s n byte link.object link.block → value ≡ value_at (payload_in s) byte link.object link.block
      → step ≡ step_of t link.object link.block value → next ≡ link_of t.source link.object link.block link.left
      → Chaining s object block byte (set steps count step) (count + 1) next
  unfolding chain told told_at
  chaining_step {n} {value} {step} {t} {next} e room told_is valued step_of_lem link-is =
      let j = link.object in
      let b = link.block in
      let here : Step = record { object = j; block = b; source = from s byte j b } in
      let step-told : step ≡ tell s byte here = step_of_lem ∙ ap (λ (t : Told). step_of t j b value) told_is ∙ step_is s byte n j b value e valued in
      let next-is : next ≡ link_of (from s byte j b) j b link.left = link-is ∙ ap (λ (t : Told). link_of t.source j b link.left) told_is in
      let tail : List WhyStep = map (tell s byte) (steps_at s byte next) in
      let split : step ∷ tail ≡ map (tell s byte) (chain (from s byte) (suc link.left) j b) =
      ap₂ (λ (w : WhyStep) (i : Option Link). w ∷ map (tell s byte) (steps_at s byte i)) step-told next-is
      ∙ ap (λ (l : List Step). tell s byte here ∷ map (tell s byte) l) (sym (linked s byte (from s byte j b) link.left j b)) in
      let behind = back (from s byte j b) link.left j b object block x.within.0 x.within.1 in
      record {
        done = x.done ++ (step ∷ []);
        many = length-append x.done (step ∷ []) ∙ omega (arith, x.many);
        holds = ap (λ (l : List WhyStep). set l count step) x.holds ∙ filled_next most_steps no_step x.done step count x.many room;
        rest = append_assoc x.done (step ∷ []) tail ∙ ap (λ (l : List WhyStep). x.done ++ l) split ∙ x.rest;
        fuel = omega (arith, x.fuel, ap steps_left next-is, behind.0);
        within = subst (Within object block) (sym next-is) behind.1;
      }

-- fewer are left
pub chaining_less : (x : Source) (k : Link) → steps_left (link_of x k.object k.block k.left) < suc k.left
chaining_less x k = let less = back x k.left k.object k.block k.object k.block (omega arith) (omega arith) in omega (arith, less.0)

pub chaining-stop : {s : List ℕ} {object block byte : ℕ} {steps : List WhyStep} {count : ℕ} → Chaining s object block byte steps count None
    → ◌≡◌ {A = WhyAnswer} (record { place = 0; missing = 0; refusal = 0; count = count; steps = steps }) (explained (steps_told s (payload_in s) object block byte))
chaining-stop {s} {object} {block} {byte} x =
    let all : x.done ≡ steps_told s (payload_in s) object block byte = sym (append-nil x.done) ∙ x.rest in
    ap₂ (λ (c : ℕ) (l : List WhyStep). record { place = 0; missing = 0; refusal = 0; count = c; steps = l }) (sym x.many) x.holds
    ∙ ap (answer_of 0 0 0) all
