-- Every answer of a read has nine beds and eight updates, used or not.
use Rattle.std.specs.Prelude.{◌≡◌, refl, Bool, true, false, not, List, [], ◌∷◌, map, ℕ, suc, ◌+◌, ◌-◌, ◌*◌, ◌≤◌, ◌<◌, length, replicate}
use Rattle.std.proofs.Common.{ap, ◌∙◌, arith, length-append}
use Rattle.std.proofs.Math.Option.{Option, none, some}
use Rattle.std.proofs.lemmas.List.{length-replicate, length-map}
use Rattle.bits.specs.Language.{bit, pick, from, past_payload}
use Rattle.bits.specs.Bytes.{bit_lt}
use Rattle.bits.specs.Laws.{length_from}
use Rattle.bits.specs.Ensures.{ensured, e-give, e-bind, e-any, e-then, e-pass, e_if, e-each}
use Rattle.bits.specs.Terms.{Ensures, All}
use Rattle.oamd.specs.declared.ReadAnswer.{ReadAnswer}
use Rattle.oamd.specs.Tables.{most_beds, most_blocks}
use Rattle.oamd.specs.Programme.{set?, has_beds, instance_count, bed_assignment, filled, bed_instances, program_assignment, agrees}
use Rattle.oamd.specs.Timing.{no_update, update_of, offset_of, timing_of}
use Rattle.oamd.specs.ObjectElement.{ObjectElement}
use Rattle.oamd.specs.Payload.{header, object_audio_metadata_payload, timing, tables}
use Rattle.oamd.specs.Answer.{reading}
use Rattle.demands.specs.Lemmas.Reading.{Case, long, stopped, full, read, case}
use Rattle.demands.specs.Lemmas.Limits.{Blocked, limits}

pub record Arrays (a : ReadAnswer) : Type 0 where
  pub nine : length a.programme.beds ≡ most_beds
  pub eight : length a.timing.updates ≡ most_blocks

filled_long : {A : Type 0} (n : ℕ) (empty : A) (xs : List A) → length xs ≤ n → length (filled n empty xs) ≡ n
filled_long n empty xs h = length-append xs (replicate (n - length xs) empty) ∙ omega (arith, length-replicate (n - length xs) empty)

-- ---- the beds

instances_most : (content multiple instances : ℕ) → instances < 8 → instance_count content multiple instances ≤ most_beds
instances_most content multiple instances h = go (has_beds content) (set? multiple)
  where
    go : (beds many : Bool) → pick beds (pick many (instances + 2) 1) 0 ≤ most_beds
    go true true = omega arith
    go true false = omega arith
    go false many = omega arith

all_long : {X A : Type 0} (R : X → A → Type 0) (xs : List X) (vs : List A) → All R xs vs → length vs ≡ length xs
all_long R [] [] h = refl
all_long R [] (a ∷ vs) h = absurd h
all_long R (x ∷ xs) [] h = absurd h
all_long R (x ∷ xs) (a ∷ vs) h = ap suc (all_long R xs vs h.1)

if-small : (on : Bool) (v : ℕ) → (on ≡ true → v < 8) → (on ≡ false → 0 ≡ v) → v < 8
if-small true v f g = f refl
if-small false v f g = let e = g refl in omega arith

beds-few : (content : ℕ) → Ensures (bed_instances content) (λ b. length b.beds ≤ most_beds)
unfolding bed_instances
beds-few content =
    e-bind _ _ _ (e-any _ _ λ distribute. e-bind _ _ _ (e-any _ _ λ multiple. e-bind _ _ _ (e_if (set? multiple) 3 _ λ instances i i'.
    e-bind _ _ _ (e-then _ _ _ (e-each (λ k. bed_assignment) (λ k b. Unit {0}) (λ k. e-any _ _ λ b. tt) (from 0 (instance_count content multiple instances))) λ beds h.
    let many = all_long (λ k b. Unit {0}) (from 0 (instance_count content multiple instances)) beds h ∙ length_from 0 (instance_count content multiple instances) in
    let most = instances_most content multiple instances (if-small (set? multiple) instances i i') in
    e-give _ _ (omega arith)))))

assignment-nine : (n : ℕ) → Ensures (program_assignment n) (λ p. length p.beds ≡ most_beds)
unfolding program_assignment
assignment-nine n =
    e-bind _ _ _ (e-any _ _ λ dynonly. e-bind _ _ _ (e-any _ _ λ lfe. e-bind _ _ _ (e-any _ _ λ content. e-bind _ _ _ (e-then _ _ _ (beds-few content) λ b few.
    e-bind _ _ _ (e-any _ _ λ isf. e-bind _ _ _ (e-any _ _ λ dynamics. e-bind _ _ _ (e-any _ _ λ reserved. e-give _ _ (filled_long most_beds _ b.beds few))))))))

header-nine : Ensures header (λ h. length h.programme.beds ≡ most_beds)
unfolding header
header-nine =
    e-bind _ _ _ (e-any _ _ λ version. e-bind _ _ _ (e-any _ _ λ count. e-bind _ _ _ (e-then _ _ _ (assignment-nine count) λ p nine.
    e-bind _ _ _ (e-pass (not (agrees p)) _ _ p _ λ q. e-bind _ _ _ (e-any _ _ λ alternate. e-give _ _ nine)))))

payload-nine : Ensures object_audio_metadata_payload (λ q. length q.programme.beds ≡ most_beds)
unfolding object_audio_metadata_payload
payload-nine = e-bind _ _ _ (e-then _ _ _ header-nine λ head h. e-bind _ _ _ (e-any _ _ λ count. e-bind _ _ _ (e-any _ _ λ st. e-give _ _ h)))

-- ---- the updates

updates-eight : (o : Option ObjectElement) → Blocked o → length (timing o).updates ≡ most_blocks
unfolding timing timing_of
updates-eight none h = refl
updates-eight (some e) h =
    let n = length-map e.timing.blocks (update_of (offset_of e.timing.offset)) in
    let few = h.few in
    filled_long most_blocks no_update (map (update_of (offset_of e.timing.offset)) e.timing.blocks) (omega arith)

-- ---- the answer

pub arrays : (frame : ℕ) (s buffer trim : List ℕ) → Arrays (reading frame s buffer trim).answer
unfolding tables
arrays frame s buffer trim = go (case frame s buffer trim)
  where
    go : Case frame s buffer trim → Arrays (reading frame s buffer trim).answer
    go (long l e) = rw e (record { nine = refl; eight = refl })
    go (stopped r pl m l h two eight e) = rw e (record { nine = refl; eight = refl })
    go (full q to pl l h x e) = rw e (record { nine = refl; eight = refl })
    go (read q to l h f g e) =
        let nine = ensured object_audio_metadata_payload _ payload-nine (bit s) (bit_lt s) 0 (8 * length s) past_payload h in
        rw e (record { nine = nine; eight = updates-eight q.known.object (limits s h).object })
