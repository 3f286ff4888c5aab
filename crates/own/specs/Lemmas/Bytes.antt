-- Bytes of two records and of two trim tables.
use Rattle.std.specs.Prelude.{◌≡◌, refl, List, [], ◌∷◌, ◌++◌, ℕ, zero, suc, ◌+◌, ◌-◌, ◌*◌, ◌≤◌, ◌<◌, length, get_or, drop}
use Rattle.std.proofs.Common.{sym, ap, ◌∙◌, append_assoc, arith, suc-mul, mul-le-mul_right, length-append, get_or-append-add}
use Rattle.std.proofs.Math.ListN.{get_or-append}
use Rattle.bits.specs.Language.{ok, bit, past_payload}
use Rattle.bits.specs.Steps.{by_order}
use Rattle.oamd.specs.declared.Scene.{Scene}
use Rattle.oamd.specs.Tables.{record_stride, trim_fixed, trim_configs}
use Rattle.oamd.specs.Record.{Record, record_bytes_of, onto}
use Rattle.oamd.specs.Time.{time_of, time_bytes_of}
use Rattle.oamd.specs.Trim.{TrimTable, configs_bytes_of, trim_bytes_of, trim_needed}
use Rattle.oamd.specs.Lengths.{length-timed, length-configs, length-trim}
use Rattle.oamd.specs.Payload.{Payload, tables}
use Rattle.oamd.specs.Answer.{laid_records}
use Rattle.demands.specs.Terms.{parsed, tables_of}
use Rattle.demands.specs.Lemmas.Records.{length-needed}
use Rattle.demands.specs.Lemmas.Timed.{byte_at}
use Rattle.sources.specs.Chain.{objects_in, blocks_in, no_record, record_at}
use Rattle.sources.specs.Given.{gain_byte}
use Rattle.own.specs.Own.{Within, TrimDiffer, byte_of}
use Rattle.own.specs.Lemmas.Near.{muted}

-- ---- records

-- byte k of the record of block b of object i, as an accepted read lays it
pub laid-byte : (frame : ℕ) (s buffer : List ℕ) {q : Payload} {to : ℕ} → parsed s ≡ ok q to → (i b k : ℕ) → Within q i b → k < record_stride
    → byte_of (blocks_in q) i b k (onto (laid_records frame (tables_of q)) buffer)
    ≡ get_or (record_bytes_of (record_at q i b) ++ time_bytes_of (time_of frame (tables_of q).timing (i * blocks_in q + b))) k 0
unfolding onto record_at tables
laid-byte frame s buffer {q} h i b k w l =
    let n : ℕ = blocks_in q in
    let time = time_of frame (tables_of q).timing in
    let long = length-needed frame (bit s) 0 (8 * length s) past_payload h in
    let each = length-timed time 0 (tables_of q).records in
    let row : suc i * n ≤ objects_in q * n = mul-le-mul_right n w.object in
    let e : 0 + (i * n + b) ≡ i * n + b = omega arith in
    byte_at time 0 (tables_of q).records (drop (length (laid_records frame (tables_of q))) buffer) (i * n + b) k no_record (omega (arith, suc-mul i n, w.block)) l
    ∙ ap (λ (m : ℕ). get_or (record_bytes_of (record_at q i b) ++ time_bytes_of (time m)) k 0) e

-- two records, but for their gains, and their gains where these are the same
pub same_byte : (r r' : Record) (time : List ℕ) (k : ℕ) → muted r.scene ≡ muted r'.scene → r.divergence ≡ r'.divergence → r.precise ≡ r'.precise
    → (k ≡ gain_byte → r.scene.gain ≡ r'.scene.gain) → get_or (record_bytes_of r ++ time) k 0 ≡ get_or (record_bytes_of r' ++ time) k 0
unfolding record_bytes_of
same_byte r r' time zero m d p g = ap (λ (s : Scene). s.active) m
same_byte r r' time (suc zero) m d p g = ap (λ (s : Scene). s.class) m
same_byte r r' time (suc (suc zero)) m d p g = g refl
same_byte r r' time (suc (suc (suc k))) m d p g =
    let is : Record → ℕ = λ r. get_or (record_bytes_of r ++ time) (suc (suc (suc k))) 0 in
    λ i. is (record { scene = m i; divergence = d i; precise = p i })

-- ---- trim tables

-- the same lists but for entry j, with the same behind them, or before them
same-before : (xs xs' tail : List ℕ) (j : ℕ) → length xs ≡ length xs' → ((y : ℕ) → (y ≡ j → ⊥) → get_or xs y 0 ≡ get_or xs' y 0)
    → (x : ℕ) → (x ≡ j → ⊥) → get_or (xs ++ tail) x 0 ≡ get_or (xs' ++ tail) x 0
same-before xs xs' tail j l h x other = by_order (length xs) x
    (λ past.
    let e : x ≡ length xs + (x - length xs) = omega arith in
    let e' : x ≡ length xs' + (x - length xs) = omega arith in
    ap (λ (n : ℕ). get_or (xs ++ tail) n 0) e ∙ get_or-append-add xs tail (x - length xs) 0 ∙ sym (get_or-append-add xs' tail (x - length xs) 0)
    ∙ ap (λ (n : ℕ). get_or (xs' ++ tail) n 0) (sym e'))
    (λ inside. get_or-append xs tail 0 x inside ∙ h x other ∙ sym (get_or-append xs' tail 0 x (omega arith)))

same-behind : (front xs xs' : List ℕ) (j : ℕ) → ((y : ℕ) → (y ≡ j → ⊥) → get_or xs y 0 ≡ get_or xs' y 0)
    → (x : ℕ) → (x ≡ length front + j → ⊥) → get_or (front ++ xs) x 0 ≡ get_or (front ++ xs') x 0
same-behind [] xs xs' j h x other = h x (λ e. other (omega arith))
same-behind (a ∷ front) xs xs' j h zero other = refl
same-behind (a ∷ front) xs xs' j h (suc x) other = same-behind front xs xs' j h x (λ e. other (omega arith))

-- a trim table before its flags
abbrev head : TrimTable → List ℕ
head t = t.present ∷ t.warp ∷ t.mode ∷ (configs_bytes_of t.configs ++ (t.per-object ∷ []))

head_long : (t : TrimTable) → length t.configs ≡ trim_configs → length (head t) ≡ trim_fixed
head_long t nine = omega (arith, length-append (configs_bytes_of t.configs) (t.per-object ∷ []), length-configs t.configs)

parted : (objects : ℕ) (t : TrimTable) (trim : List ℕ) → length t.configs ≡ trim_configs → length t.disabled ≡ objects
    → onto (trim_bytes_of t) trim ≡ head t ++ (t.disabled ++ drop (trim_needed objects) trim)
unfolding onto trim_bytes_of
parted objects t trim nine flags =
    let c : List ℕ = configs_bytes_of t.configs in
    let tail : List ℕ = drop (trim_needed objects) trim in
    ap (λ (n : ℕ). trim_bytes_of t ++ drop n trim) (length-trim objects t nine flags)
    ∙ ap (λ (l : List ℕ). t.present ∷ t.warp ∷ t.mode ∷ l)
    (append_assoc c (t.per-object ∷ t.disabled) tail ∙ sym (append_assoc c (t.per-object ∷ []) (t.disabled ++ tail)))

pub same-trim : (objects j : ℕ) (t t' : TrimTable) (trim : List ℕ) → length t.configs ≡ trim_configs → length t'.configs ≡ trim_configs
    → length t.disabled ≡ objects → length t'.disabled ≡ objects → t.present ≡ t'.present → TrimDiffer j t t'
    → (x : ℕ) → (x ≡ trim_fixed + j → ⊥) → get_or (onto (trim_bytes_of t) trim) x 0 ≡ get_or (onto (trim_bytes_of t') trim) x 0
same-trim objects j t t' trim nine nine' flags flags' present d x other =
    let tail : List ℕ = drop (trim_needed objects) trim in
    let heads : head t ≡ head t' = λ i. present i ∷ d.warp i ∷ d.mode i ∷ (configs_bytes_of (d.configs i) ++ (d.per-object i ∷ [])) in
    ap (λ (l : List ℕ). get_or l x 0) (parted objects t trim nine flags ∙ ap (λ (l : List ℕ). l ++ (t.disabled ++ tail)) heads)
    ∙ same-behind (head t') _ _ j (same-before t.disabled t'.disabled tail j (flags ∙ sym flags') d.disabled) x
    (λ e. other (omega (arith, e, head_long t' nine')))
    ∙ ap (λ (l : List ℕ). get_or l x 0) (sym (parted objects t' trim nine' flags'))
