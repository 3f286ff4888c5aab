-- A pass over the records that stand already: each is given the value that is read for it. One law for both blocks of the extended element, and the
-- two passes put together. Assumes nothing.
use mathlib.Core.Path.{◌≡◌, refl, sym, ap, ◌∙◌, subst}
use mathlib.Core.Bool.{Bool, true, false}
use mathlib.Core.List.{List, [], ◌∷◌, ◌++◌, append_assoc, append-nil}
use Prim.Native.Nat.{ℕ, suc, ◌+◌, ◌*◌, ◌≤◌, ◌<◌}
use native.Mathlib.Omega.{arith}
use lib.ListN.{length, drop, replicate, length-append, drop_of_length-le, length-replicate}
use borrow.Author.Tests.{eq-eqb, ne_eqb}
use Rattle.bits.specs.declared.Cur.{Cur}
use Rattle.bits.specs.declared.Limit.{Limit}
use Rattle.bits.specs.Language.{Bits, P, give, ◌>>=◌, each, bits, when, run, ok}
use Rattle.bits.specs.View.{Reads}
use Rattle.bits.proofs.Sticky.{Left, start, done, turned, broken, each_step, each-stop, plain, bind}
use Rattle.bits.specs.Steps.{give_ok}
use Rattle.bits.specs.Laws.{each_long}
use Rattle.bits.specs.Unique.{begun, ran}
use Rattle.oamd.specs.Tables.{record_bytes}
use Rattle.oamd.specs.Record.{Record, carries, record_bytes_of, bytes_of, onto, record_of, all_carry, plain_records, extended_records}
use Rattle.oamd.specs.Lengths.{length-bytes}
use Rattle.oamd.specs.declared.Divergence.{Divergence}
use Rattle.oamd.specs.declared.Precise.{Precise}
use Rattle.oamd.specs.declared.Scene.{Scene}
use Rattle.oamd.specs.Programme.{set?}
use Rattle.oamd.specs.Extended.{obj_div_block, ext_prec_pos_block, no_divergence, no_precise, extended_object_element}
use Rattle.record.specs.Bytes.{set_from, scene_at}
use Rattle.record.specs.Laws.{record-among}
use Rattle.record.specs.Stored.{length-set_from, set_from-behind}
use Rattle.reader.specs.Steps.{put, carriers, Went, Passed, PassedIf, Standing, with_divergence, with_precise, Extending, ExtendedRead}
use Rattle.reader.proofs.Bytes.{around, length-plain}
use Rattle.reader.proofs.ObjectLoop.{unit}

pub length-carriers : (rs : List Record) → length (carriers rs) ≡ length rs
length-carriers [] = refl
length-carriers (r ∷ rs) = ap suc (length-carriers rs)

pub put_none : {X : Type 0} (f : Record → X → Record) (rs : List Record) → put f rs [] ≡ rs
unfolding put
put_none f [] = refl
put_none f (r ∷ rs) = refl

module _ {X : Type 0} (p : Bool → P X) (f : Record → X → Record) where
  -- the first record that has no value yet
  record Next (rs : List Record) (vs : List X) : Type 0 where
    front : List Record
    one : Record
    rest : List Record
    stands : put f rs vs ≡ front ++ (one ∷ rest)
    far : length front ≡ length vs
    waits : drop (length vs) (carriers rs) ≡ carries one.scene ∷ drop (suc (length vs)) (carriers rs)
    given : (x : X) → put f rs (vs ++ (x ∷ [])) ≡ front ++ (f one x ∷ rest)

  next : (rs : List Record) (vs : List X) → length vs < length rs → Next rs vs
  unfolding put
  next [] vs h = absurd (omega arith)
  next (r ∷ rs) [] h = record {
    front = [];
    one = r;
    rest = rs;
    stands = refl;
    far = refl;
    waits = refl;
    given = λ x. ap (λ (t : List Record). f r x ∷ t) (put_none f rs);
  }
  next (r ∷ rs) (v ∷ vs) h =
      let y = next rs vs (omega arith) in
      record {
        front = f r v ∷ y.front;
        one = y.one;
        rest = y.rest;
        stands = ap (λ (t : List Record). f r v ∷ t) y.stands;
        far = ap suc y.far;
        waits = y.waits;
        given = λ x. ap (λ (t : List Record). f r v ∷ t) (y.given x);
      }

  module _ (rs : List Record) (b : Bits) (c : Cur) (l : Limit) (t : List ℕ) where
    -- before record i
    pub record Mid (i : ℕ) (cur : Cur) (out : List ℕ) : Type 0 where
      pub vs : List X
      pub many : length vs ≡ i
      pub begun : cur.no ≡ 0 → c.no ≡ 0
      pub stand : c.no ≡ 0 → out ≡ onto (bytes_of (put f rs vs)) t
      pub left : Left (each p (carriers rs)) b c l (each p (drop i (carriers rs)) >>= λ ws. give (vs ++ ws)) cur

    pub begin : {out : List ℕ} → (c.no ≡ 0 → out ≡ onto (bytes_of rs) t) → Mid 0 c out
    begin e = record {
      vs = [];
      many = refl;
      begun = λ z. z;
      stand = λ z. e z ∙ ap (λ (q : List Record). onto (bytes_of q) t) (sym (put_none f rs));
      left = turned (unit (each p (carriers rs))) start;
    }

    module _ {i : ℕ} {cur : Cur} {out : List ℕ} where
      -- where a record's bytes, with a value put in, are its bytes with some stored over
      pub turn : {cur' : Cur} (k : ℕ) (carry : Bool) (bytes : X → List ℕ) (v : X) → Mid i cur out → cur.no ≡ 0 → i < length rs
          → ((r : Record) (x : X) (tail : List ℕ) → set_from 0 k (bytes x) (record_bytes_of r ++ tail) ≡ record_bytes_of (f r x) ++ tail)
          → carry ≡ carries (scene_at out (record_bytes * i))
          → Reads (p carry) b cur l v cur' → Mid (i + 1) cur' (set_from (record_bytes * i) k (bytes v) out)
      turn k carry bytes v x z h lays q r =
          let at : ℕ = record_bytes * i in
          let y = next rs x.vs (omega (arith, x.many)) in
          let o : out ≡ onto (bytes_of (y.front ++ (y.one ∷ y.rest))) t = x.stand (x.begun z) ∙ ap (λ (z : List Record). onto (bytes_of z) t) y.stands in
          let at_front : at ≡ length (bytes_of y.front) = omega (arith, length-bytes y.front, y.far, x.many) in
          let tail : List ℕ = bytes_of y.rest ++ drop (record_bytes * (length y.front + suc (length y.rest))) t in
          let stood : out ≡ bytes_of y.front ++ (record_bytes_of y.one ++ tail) = o ∙ around y.front y.rest y.one t in
          let is : carry ≡ carries y.one.scene =
          q ∙ ap (λ (z : List ℕ). carries (scene_at z at)) stood ∙ ap (λ (z : Record). carries z.scene) (record-among (bytes_of y.front) y.one tail at at_front) in
          let one_on : suc (length x.vs) ≡ i + 1 = omega (arith, x.many) in
          let w : drop i (carriers rs) ≡ carries y.one.scene ∷ drop (i + 1) (carriers rs) =
          ap (λ (n : ℕ). drop n (carriers rs)) (sym x.many) ∙ y.waits ∙ ap (λ (n : ℕ). carries y.one.scene ∷ drop n (carriers rs)) one_on in
          record {
            vs = x.vs ++ (v ∷ []);
            many = length-append x.vs (v ∷ []) ∙ omega (arith, x.many);
            begun = λ n. x.begun z;
            stand = λ n. ap (set_from at k (bytes v)) stood
                ∙ set_from-behind (bytes v) (bytes_of y.front) (record_bytes_of y.one ++ tail) at k at_front
                ∙ ap (λ (z : List ℕ). bytes_of y.front ++ z) (lays y.one v tail)
                ∙ sym (around y.front y.rest (f y.one v) t) ∙ ap (λ (z : List Record). onto (bytes_of z) t) (sym (y.given v));
            left = simp append_assoc (each_step p (carries y.one.scene) (drop (i + 1) (carriers rs)) (λ ws. give (x.vs ++ ws)) (rw w at x.left) (rw is at r));
          }

      pub finish : Mid i cur out → i ≡ length rs → Went (each p (carriers rs)) f rs b c l t cur out
      finish x h =
          let e : drop i (carriers rs) ≡ [] = drop_of_length-le (carriers rs) {i = i} (omega (arith, length-carriers rs)) in
          record {
            value = x.vs;
            reads = done (rw (append-nil x.vs) at (each-stop p (λ ws. give (x.vs ++ ws)) (rw e at x.left)));
            stand = λ z. x.stand (x.begun z);
          }

      pub stop : Mid i cur out → (cur.no ≡ 0 → ⊥) → Went (each p (carriers rs)) f rs b c l t cur out
      stop x h = record { value = x.vs; reads = broken x.left h; stand = λ z. absurd (h z) }

  -- where a flag says whether there is anything to read
  pub taken : {v : ℕ} {none : X} {n : ℕ} {b : Bits} {c d : Cur} {l : Limit} {out out' : List ℕ} → v ≡ 1
      → Passed p f n b c l out d out' → PassedIf (set? v) p f none n b c l out d out'
  taken {v} e x = rw (eq-eqb v 1 e) (record { size = x.size; went = λ rs t s m z. x.went rs t s m })

  pub passed : {v : ℕ} {none : X} {n : ℕ} {b : Bits} {c : Cur} {l : Limit} {out : List ℕ} → (v ≡ 1 → ⊥)
      → PassedIf (set? v) p f none n b c l out c out
  passed {v} {none} {n} e =
      rw (ne_eqb v 1 e) (record {
        size = refl;
        went = λ rs t s m z. record { value = replicate n none; reads = plain; stand = λ q. s q ∙ ap (λ (y : List Record). onto (bytes_of y) t) (sym z) };
      })

-- ---- the loop of a pass over n records, whatever records they are

module _ {X : Type 0} (p : Bool → P X) (f : Record → X → Record) (n : ℕ) (b : Bits) (c : Cur) (l : Limit) (out₀ : List ℕ) where
  pub record Passing (i : ℕ) (cur : Cur) (out : List ℕ) : Type 0 where
    pub within : i ≤ n
    pub size : length out ≡ length out₀
    pub mid : (rs : List Record) (t : List ℕ) → (c.no ≡ 0 → out₀ ≡ onto (bytes_of rs) t) → length rs ≡ n → Mid p f rs b c l t i cur out

  pub set_out : Passing 0 c out₀
  set_out = record { within = omega arith; size = refl; mid = λ rs t s m. begin p f rs b c l t s }

  module _ {i : ℕ} {cur : Cur} {out : List ℕ} (x : Passing i cur out) where
    pub go_on_lem : {cur' : Cur} (k : ℕ) (carry : Bool) (bytes : X → List ℕ) (v : X) → cur.no ≡ 0 → i < n
        → ((r : Record) (y : X) (tail : List ℕ) → set_from 0 k (bytes y) (record_bytes_of r ++ tail) ≡ record_bytes_of (f r y) ++ tail)
        → carry ≡ carries (scene_at out (record_bytes * i)) → Reads (p carry) b cur l v cur'
        → Passing (i + 1) cur' (set_from (record_bytes * i) k (bytes v) out)
    go_on_lem k carry bytes v z h lays q r = record {
      within = omega arith;
      size = length-set_from (record_bytes * i) k (bytes v) out ∙ x.size;
      mid = λ rs t s m. turn p f rs b c l t k carry bytes v (x.mid rs t s m) z (omega arith) lays q r;
    }

    pub give-up : (cur.no ≡ 0 → ⊥) → Passed p f n b c l out₀ cur out
    give-up h = record { size = x.size; went = λ rs t s m. stop p f rs b c l t (x.mid rs t s m) h }

    pub arrive : i ≡ n → Passed p f n b c l out₀ cur out
    arrive h = record { size = x.size; went = λ rs t s m. finish p f rs b c l t (x.mid rs t s m) (omega arith) }

-- ---- the two passes of the extended element

carriers-plain : (ss : List Scene) → carriers (plain_records ss) ≡ all_carry ss
unfolding plain_records
carriers-plain [] = refl
carriers-plain (s ∷ ss) = ap (λ (bs : List Bool). carries s ∷ bs) (carriers-plain ss)

carriers-put : (rs : List Record) (ds : List Divergence) → carriers (put with_divergence rs ds) ≡ carriers rs
unfolding put
carriers-put [] ds = refl
carriers-put (r ∷ rs) [] = refl
carriers-put (r ∷ rs) (d ∷ ds) = ap (λ (bs : List Bool). carries r.scene ∷ bs) (carriers-put rs ds)

-- a record to which nothing is given stays
no-divergence : (ss : List Scene) → put with_divergence (plain_records ss) (replicate (length ss) no_divergence) ≡ plain_records ss
unfolding put plain_records
no-divergence [] = refl
no-divergence (s ∷ ss) = ap (λ (rs : List Record). record_of s no_divergence no_precise ∷ rs) (no-divergence ss)

no-precise : (ss : List Scene) (ds : List Divergence)
    → put with_precise (put with_divergence (plain_records ss) ds) (replicate (length ss) no_precise) ≡ put with_divergence (plain_records ss) ds
unfolding put plain_records
no-precise [] ds = refl
no-precise (s ∷ ss) [] = ap (λ (rs : List Record). record_of s no_divergence no_precise ∷ rs) (rw (put_none with_divergence (plain_records ss)) at (no-precise ss []))
no-precise (s ∷ ss) (d ∷ ds) = ap (λ (rs : List Record). record_of s d no_precise ∷ rs) (no-precise ss ds)

length-put : {X : Type 0} (f : Record → X → Record) (rs : List Record) (xs : List X) → length (put f rs xs) ≡ length rs
unfolding put
length-put f [] xs = refl
length-put f (r ∷ rs) [] = refl
length-put f (r ∷ rs) (x ∷ xs) = ap suc (length-put f rs xs)

-- a record to which both are given
both-given : (ss : List Scene) (ds : List Divergence) (ps : List Precise) → length ds ≡ length ss → length ps ≡ length ss
    → put with_precise (put with_divergence (plain_records ss) ds) ps ≡ extended_records ss ds ps
unfolding put plain_records extended_records
both-given [] ds ps e f = refl
both-given (s ∷ ss) [] ps e f = absurd (omega arith)
both-given (s ∷ ss) (d ∷ ds) [] e f = absurd (omega arith)
both-given (s ∷ ss) (d ∷ ds) (p ∷ ps) e f = ap (λ (rs : List Record). record_of s d p ∷ rs) (both-given ss ds ps (omega arith) (omega arith))

-- as many values are read as there are records
all_read : {X : Type 0} (on : Bool) (p : Bool → P X) (bs : List Bool) (none : X) (b : Bits) (at e o : ℕ) {v : List X} {to : ℕ}
    → run (when on (each p bs) (replicate (length bs) none)) b at e o ≡ ok v to → length v ≡ length bs
all_read true p bs none b at e o h = each_long p bs b at e o h
all_read false p bs none b at e o h = ap length (sym (give_ok _ b at e o h).0) ∙ length-replicate (length bs) none

-- the same reading, by the scenes' flags
retold : {X : Type 0} (on : Bool) (p : Bool → P X) (none : X) {bs cs : List Bool} {n : ℕ} {b : Bits} {c d : Cur} {l : Limit} {v : List X} → bs ≡ cs → length cs ≡ n
    → Reads (when on (each p bs) (replicate n none)) b c l v d → Reads (when on (each p cs) (replicate (length cs) none)) b c l v d
retold on p none e k r = rw (k, ← e) r

pub extending : {n : ℕ} {b : Bits} {c d₁ e₁ d₂ e₂ : Cur} {l : Limit} {out out₁ out₂ : List ℕ} {v₁ v₂ : ℕ}
    → Reads (bits 1) b c l v₁ d₁ → PassedIf (set? v₁) obj_div_block with_divergence no_divergence n b d₁ l out e₁ out₁
    → Reads (bits 1) b e₁ l v₂ d₂ → PassedIf (set? v₂) ext_prec_pos_block with_precise no_precise n b d₂ l out₁ e₂ out₂
    → ExtendedRead n b c l out e₂ out₂
unfolding extended_object_element
extending {n} {b} {c} {d₁} {e₁} {d₂} {e₂} {l} {out} {out₁} {out₂} {v₁} {v₂} r₁ p₁ r₂ p₂ = record { size = p₂.size ∙ p₁.size; went = went }
  where
    went : (ss : List Scene) (t : List ℕ) → Standing ss t out → length ss ≡ n → Extending ss b c l t e₂ out₂
    went ss t s m =
        let k : length (all_carry ss) ≡ n = ap length (sym (carriers-plain ss)) ∙ length-carriers (plain_records ss) ∙ length-plain ss ∙ m in
        let w₁ = p₁.went (plain_records ss) t (λ z. s) (length-plain ss ∙ m) (rw m at (no-divergence ss)) in
        let q₁ = retold (set? v₁) obj_div_block no_divergence (carriers-plain ss) k w₁.reads in
        let rs : List Record = put with_divergence (plain_records ss) w₁.value in
        let w₂ = p₂.went rs t (λ z. w₁.stand (begun r₂ z)) (length-put with_divergence (plain_records ss) w₁.value ∙ length-plain ss ∙ m)
        (subst (λ (k : ℕ). put with_precise rs (replicate k no_precise) ≡ rs) m (no-precise ss w₁.value)) in
        let q₂ = retold (set? v₂) ext_prec_pos_block no_precise (carriers-put (plain_records ss) w₁.value ∙ carriers-plain ss) k w₂.reads in
        let given : e₂.no ≡ 0 → put with_precise rs w₂.value ≡ extended_records ss w₁.value w₂.value =
        λ z.
        let m₁ = all_read (set? v₁) obj_div_block (all_carry ss) no_divergence _ _ _ _ (ran q₁ (begun r₂ (begun q₂ z))) in
        let m₂ = all_read (set? v₂) ext_prec_pos_block (all_carry ss) no_precise _ _ _ _ (ran q₂ z) in
        both-given ss w₁.value w₂.value (m₁ ∙ k ∙ sym m) (m₂ ∙ k ∙ sym m) in
        record {
          value = record { divergence = w₁.value; precise = w₂.value };
          reads = bind r₁ (bind q₁ (bind r₂ (bind q₂ plain)));
          full = λ z. ap length (sym (given z)) ∙ length-put with_precise rs w₂.value ∙ length-put with_divergence (plain_records ss) w₁.value ∙ length-plain ss;
          stand = λ z. w₂.stand z ∙ ap (λ (x : List Record). onto (bytes_of x) t) (given z);
        }
