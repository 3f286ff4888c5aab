-- How many bytes records, a trim table and an answer take.
use Rattle.std.specs.Prelude.{◌≡◌, refl, List, [], ◌∷◌, ◌++◌, ℕ, suc, ◌+◌, ◌*◌, length}
use Rattle.std.proofs.Common.{sym, ap, ap₂, ◌∙◌, zero-mul, suc-mul, add_comm, arith, length-append}
use Rattle.oamd.specs.declared.Bed.{Bed}
use Rattle.oamd.specs.declared.Update.{Update}
use Rattle.oamd.specs.declared.TrimConfig.{TrimConfig}
use Rattle.oamd.specs.declared.ReadAnswer.{ReadAnswer}
use Rattle.oamd.specs.Tables.{most_beds, most_blocks, record_bytes, record_stride, trim_configs, config_bytes, answer_bytes}
use Rattle.oamd.specs.Record.{Record, record_bytes_of, bytes_of}
use Rattle.oamd.specs.LeastFirst.{least_first}
use Rattle.oamd.specs.Time.{time_bytes_of, timed_bytes_of}
use Rattle.oamd.specs.Batch.{each_bytes, bed_bytes_of, update_bytes_of, programme_bytes_of, timing_bytes_of, answer_bytes_of}
use Rattle.oamd.specs.Trim.{TrimTable, config_bytes_of, configs_bytes_of, trim_bytes_of, trim_needed}

pub length_record : (r : Record) → length (record_bytes_of r) ≡ record_bytes
unfolding record_bytes_of
length_record r = refl

pub length-bytes : (rs : List Record) → length (bytes_of rs) ≡ record_bytes * length rs
unfolding bytes_of
length-bytes [] = refl
length-bytes (r ∷ rs) = length-append (record_bytes_of r) (bytes_of rs) ∙ omega (arith, length-bytes rs, length_record r)

pub length-timed : (time : ℕ → ℕ) (i : ℕ) (rs : List Record) → length (timed_bytes_of time i rs) ≡ record_stride * length rs
unfolding timed_bytes_of least_first
length-timed time i [] = refl
length-timed time i (r ∷ rs) =
    let one : List ℕ = record_bytes_of r ++ time_bytes_of (time i) in
    length-append one (timed_bytes_of time (suc i) rs)
    ∙ omega (arith, length-timed time (suc i) rs, length_record r, length-append (record_bytes_of r) (time_bytes_of (time i)))

pub length-configs : (cs : List TrimConfig) → length (configs_bytes_of cs) ≡ config_bytes * length cs
unfolding configs_bytes_of
length-configs [] = refl
length-configs (c ∷ cs) = let n = length-configs cs in length-append (config_bytes_of c) (configs_bytes_of cs) ∙ omega arith

-- a trim table of nine configurations and a flag for each object
pub length-trim : (objects : ℕ) (t : TrimTable) → length t.configs ≡ trim_configs → length t.disabled ≡ objects
    → length (trim_bytes_of t) ≡ trim_needed objects
unfolding trim_bytes_of
length-trim objects t nine flags =
    let n = length-configs t.configs in
    let m = length-append (configs_bytes_of t.configs) (t.per-object ∷ t.disabled) in
    omega arith

-- entries of w bytes each
pub length-each : {A : Type 0} (f : A → List ℕ) (w : ℕ) → ((a : A) → length (f a) ≡ w) → (xs : List A) → length (each_bytes f xs) ≡ length xs * w
unfolding each_bytes
length-each f w wide [] = sym (zero-mul w)
length-each f w wide (x ∷ xs) =
    length-append (f x) (each_bytes f xs) ∙ ap₂ (λ (m n : ℕ). m + n) (wide x) (length-each f w wide xs) ∙ add_comm w (length xs * w) ∙ sym (suc-mul (length xs) w)

pub length-bed : (b : Bed) → length (bed_bytes_of b) ≡ 8
unfolding bed_bytes_of least_first
length-bed b = refl

pub length-update : (u : Update) → length (update_bytes_of u) ≡ 4
unfolding update_bytes_of least_first
length-update u = refl

-- an answer of nine beds and eight updates
pub length-answer : (a : ReadAnswer) → length a.programme.beds ≡ most_beds → length a.timing.updates ≡ most_blocks → length (answer_bytes_of a) ≡ answer_bytes
unfolding answer_bytes_of programme_bytes_of timing_bytes_of least_first
length-answer a nine eight =
    let beds : List ℕ = each_bytes bed_bytes_of a.programme.beds in
    let updates : List ℕ = each_bytes update_bytes_of a.timing.updates in
    let b : length beds ≡ 72 = length-each bed_bytes_of 8 length-bed a.programme.beds ∙ ap (λ (n : ℕ). n * 8) nine in
    let u : length updates ≡ 32 = length-each update_bytes_of 4 length-update a.timing.updates ∙ ap (λ (n : ℕ). n * 4) eight in
    let end : List ℕ = least_first 4 a.missing in
    omega (
      arith,
      length-append beds (a.timing.blocks ∷ 0 ∷ ((updates ++ (0 ∷ 0 ∷ [])) ++ end)),
      length-append (updates ++ (0 ∷ 0 ∷ [])) end,
      length-append updates (0 ∷ 0 ∷ []),
    )
