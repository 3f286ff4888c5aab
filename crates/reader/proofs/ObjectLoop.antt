-- The loops over the blocks of an object and over the objects: what stands in the bytes, and what is left to read. Assumes nothing.
use mathlib.Core.Path.{◌≡◌, refl, sym, ap, ◌∙◌}
use mathlib.Core.Bool.{Bool, true, false}
use mathlib.Core.List.{List, [], ◌∷◌, ◌++◌, append_assoc, append-nil}
use Prim.Native.Nat.{ℕ, suc, ◌+◌, ◌-◌, ◌*◌, ◌≤◌, ◌<◌}
use native.Mathlib.Omega.{arith}
use native.Mathlib.Nat.{mul-le-mul_left, mul-le-mul_right, add-mul, one-mul, sub-zero}
use lib.ListN.{length, length-append}
use lib.Dec.{leb, eqb}
use borrow.Author.Tests.{eqb-false}
use Rattle.bits.specs.declared.Cur.{Cur}
use Rattle.bits.specs.declared.Limit.{Limit}
use Rattle.bits.specs.Language.{pick, Bits, Res, ok, no, P, give, ◌>>=◌, and_then, run, for}
use Rattle.bits.specs.Steps.{no_ok}
use Rattle.bits.specs.Unique as unique
use Rattle.bits.specs.View.{over_of, run_from, Reads}
use Rattle.bits.proofs.Sticky.{Alike, Left, start, done, turned, broken, turns, for_step, for-stop}
use Rattle.oamd.specs.declared.Block.{Block}
use Rattle.oamd.specs.declared.Scene.{Scene}
use Rattle.oamd.specs.declared.Shares.{Shares}
use Rattle.oamd.specs.declared.Status.TheVariants.{Default}
use Rattle.oamd.specs.Tables.{most_objects, most_blocks, record_bytes, scratch_bytes}
use Rattle.oamd.specs.Programme.{class_of}
use Rattle.oamd.specs.Block.{nowhere, object_info_block}
use Rattle.oamd.specs.ObjectElement.{object_data}
use Rattle.oamd.specs.Meaning.{resolve, default_zone, default_screen, nothing_before, zero_db, all_scenes}
use Rattle.oamd.specs.Record.{record_of, plain_records, record_bytes_of, bytes_of, onto}
use Rattle.oamd.specs.Extended.{no_divergence, no_precise}
use Rattle.record.specs.Bytes.{set_from, scene_at}
pub use Rattle.record.specs.Stored.{length-set_from}
use Rattle.scenes.specs.Resolved.{resolved_block}
use Rattle.reader.specs.Rooms.{ElementRoom}
use Rattle.reader.specs.Running.{gain_of_object_before, with_blocks, with_objects}
use Rattle.reader.specs.Steps.{Standing, ObjectRead, ObjectsRead}
use Rattle.reader.proofs.Bytes.{stored, gain-before}
use Rattle.reader.proofs.Structure.{Each, same}

-- a reader whose value is given on is that reader
pub unit : {A : Type 0} (p : P A) → Alike (p >>= λ a. give a) p
unfolding run
unit {A} p b at e o = go (run p b at e o)
  where
    go : (r : Res A) → and_then r (λ a to. ok a to) ≡ r
    go (ok a to) = refl
    go (no r pl m) = refl

-- a loop that gives its list begins
pub begun : {A : Type 0} (n : ℕ) (f : ℕ → P A) {b : Bits} {c : Cur} {l : Limit} → Left (for n f) b c l (turns n f (λ vs. give vs) 0 []) c
begun n f = rw (sub-zero n) (turned (unit (for n f)) start)

-- ---- the blocks of an object

-- stands for a block that was refused
no_block : Block
no_block = record {
  class = 0;
  active = 0;
  basic = record { status = Default; parts = 0; gain = record { index = 0; bits = 0 }; priority = record { bydefault = 0; bits = 0 } };
  render = record {
    status = Default;
    parts = 0;
    position = nowhere;
    distance = record { given = 0; infinite = 0; index = 0 };
    zone = default_zone;
    extent = record { index = 0; all = 0; width = 0; depth = 0; height = 0 };
    screen = default_screen;
    snap = 0;
  };
}

-- a block that was read and resolved at once: a coded block was read, which is resolved to this scene unless it was refused
record Coded (p : P Block) (f : Block → Scene) (b : Bits) (c : Cur) (l : Limit) (scene : Scene) (d : Cur) : Type 0 where
  pub block : Block
  pub reads : Reads p b c l block d
  pub means : d.no ≡ 0 → scene ≡ f block

coded : {p : P Block} {f : Block → Scene} {b : Bits} {c : Cur} {l : Limit} {scene : Scene} {d : Cur} → Reads (p >>= λ a. give (f a)) b c l scene d
    → Coded p f b c l scene d
unfolding run
coded {p} {f} {b} {c} {l} {scene} {d} r =
    go (run_from p b c l) refl (eqb d.no 0) refl (r.same ∙ through (eqb c.no 0) (run p b c.at.0 l.end.0 (over_of l.inner)) c.no c.at.0 c.missing)
  where
    through : (t : Bool) (q : Res Block) (n at m : ℕ) → pick t (and_then q (λ a to. ok (f a) to)) (no n at m) ≡ and_then (pick t q (no n at m)) (λ a to. ok (f a) to)
    through true q n at m = refl
    through false q n at m = refl

    go : (q : Res Block) → run_from p b c l ≡ q → (t : Bool) → eqb d.no 0 ≡ t
        → pick t (ok scene d.at.0) (no d.no d.at.0 d.missing) ≡ and_then q (λ a to. ok (f a) to) → Coded p f b c l scene d
    go (ok v to) e true z h = record { block = v; reads = record { same = rw z (cc); handed = r.handed }; means = λ y. cc }
    go (ok v to) e false z h = absurd (no_ok h)
    go (no n at m) e true z h = absurd (no_ok (sym h))
    go (no n at m) e false z h =
        let refused = eqb-false d.no 0 z in
        record { block = no_block; reads = record { same = rw z (cc); handed = λ y. absurd (refused y) }; means = λ y. absurd (refused y) }

length-with_blocks : (k : ℕ) (ss : List Scene) (before : Scene) (bs : List Block) → length (with_blocks k ss before bs) ≡ length ss + length bs
unfolding with_blocks
length-with_blocks k ss before [] = omega arith
length-with_blocks k ss before (b ∷ bs) =
    let s : Scene = resolve before (gain_of_object_before k ss) b in
    length-with_blocks k (ss ++ (s ∷ [])) s bs ∙ omega (arith, length-append ss (s ∷ []))

-- where scenes stand behind some blocks, and what is still to come of the object
pub record Stands (k : ℕ) (ss : List Scene) (t : List ℕ) (vs : List Block) (scene : Scene) (out : List ℕ) : Type 0 where
  pub us : List Scene
  pub stand : Standing us t out
  pub more : length us ≡ length ss + length vs
  pub rest : (bs : List Block) → with_blocks k ss nothing_before (vs ++ bs) ≡ with_blocks k us scene bs

module _ (class k at₀ : ℕ) (b : Bits) (l : Limit) (c : Cur) (out₀ : List ℕ) where
  -- before block i of an object
  pub record Inside (i : ℕ) (scene : Scene) (cur : Cur) (out : List ℕ) : Type 0 where
    pub within : i ≤ k
    pub vs : List Block
    pub many : length vs ≡ i
    pub size : length out ≡ length out₀
    pub left : Left (object_data k class) b c l (turns k (object_info_block class) (λ vs. give vs) i vs) cur
    pub stands : cur.no ≡ 0 → (ss : List Scene) (t : List ℕ) → Standing ss t out₀ → at₀ ≡ record_bytes * length ss → length t ≡ length out₀
        → Stands k ss t vs scene out

pub enter : (class k at₀ : ℕ) (b : Bits) (l : Limit) (c : Cur) (out₀ : List ℕ) → Inside class k at₀ b l c out₀ 0 nothing_before c out₀
unfolding object_data
enter class k at₀ b l c out₀ = record {
  within = omega arith;
  vs = [];
  many = refl;
  size = refl;
  left = begun k (object_info_block class);
  stands = λ z ss t s e n. record { us = ss; stand = s; more = omega arith; rest = λ bs. refl };
}

module _ {class k at₀ : ℕ} {b : Bits} {l : Limit} {c : Cur} {out₀ : List ℕ} {i : ℕ} {scene : Scene} {cur : Cur} {out : List ℕ} where
  pub turn : {next : Scene} {cur' : Cur} (above : ℕ) → Inside class k at₀ b l c out₀ i scene cur out → i < k → at₀ + record_bytes * i + record_bytes ≤ length out
      → above ≡ pick (leb (record_bytes * k) (at₀ + record_bytes * i)) (scene_at out ((at₀ + record_bytes * i) - record_bytes * k)).gain zero_db → Reads (resolved_block class i scene above) b cur l next cur'
      → Inside class k at₀ b l c out₀ (i + 1) next cur' (set_from (at₀ + record_bytes * i) 0 (record_bytes_of (record_of next no_divergence no_precise)) out)
  unfolding with_blocks
  turn {next} above x h fits a read =
      let at : ℕ = at₀ + record_bytes * i in
      let q = coded read in
      let v = q.block in
      record {
        within = omega arith;
        vs = x.vs ++ (v ∷ []);
        many = length-append x.vs (v ∷ []) ∙ omega (arith, x.many);
        size = length-set_from at 0 (record_bytes_of (record_of next no_divergence no_precise)) out ∙ x.size;
        left = for_step k (object_info_block class) (λ vs. give vs) i x.vs h x.left q.reads;
        stands = λ z ss t s e n.
            let y = x.stands (unique.begun q.reads z) ss t s e n in
            let m : at ≡ record_bytes * length y.us = omega (arith, x.many, y.more) in
            let g : above ≡ gain_of_object_before k y.us =
            a ∙ ap (λ (o : List ℕ). pick (leb (record_bytes * k) at) (scene_at o (at - record_bytes * k)).gain zero_db) y.stand ∙ gain-before y.us t k at (omega arith) m in
            let r : next ≡ resolve scene (gain_of_object_before k y.us) v = q.means z ∙ ap (λ (u : ℕ). resolve scene u v) g in
            record {
              us = y.us ++ (next ∷ []);
              stand = ap (set_from at 0 (record_bytes_of (record_of next no_divergence no_precise))) y.stand ∙ stored y.us next t at m (omega arith);
              more = omega (arith, y.more, length-append y.us (next ∷ []), length-append x.vs (v ∷ []));
              rest = λ bs. ap (with_blocks k ss nothing_before) (append_assoc x.vs (v ∷ []) bs) ∙ y.rest (v ∷ bs)
                  ∙ ap (λ (u : Scene). with_blocks k (y.us ++ (u ∷ [])) u bs) (sym r);
            };
      }

  pub leave : Inside class k at₀ b l c out₀ i scene cur out → k ≤ i → ObjectRead class k at₀ b c l out₀ cur out
  unfolding with_blocks
  leave x h = record {
    value = x.vs;
    reads = done (for-stop k (object_info_block class) (λ vs. give vs) i x.vs (omega (arith, x.within)) x.left);
    long = x.many ∙ omega (arith, x.within);
    size = x.size;
    stand = λ z ss t s e n.
        let y = x.stands z ss t s e n in
        y.stand ∙ ap (λ (us : List Scene). onto (bytes_of (plain_records us)) t) (sym (ap (with_blocks k ss nothing_before) (sym (append-nil x.vs)) ∙ y.rest []));
  }

-- ---- the objects

each_snoc : (k : ℕ) (vs : List (List Block)) (o : List Block) → Each k vs → length o ≡ k → Each k (vs ++ (o ∷ []))
each_snoc k [] o e h = (h, tt)
each_snoc k (v ∷ vs) o e h = (e.0, each_snoc k vs o e.1 h)

module _ (n : ℕ) (s : Shares) (k : ℕ) (b : Bits) (l : Limit) (c : Cur) (out₀ : List ℕ) where
  -- before object j
  pub record Among (j at : ℕ) (cur : Cur) (out : List ℕ) : Type 0 where
    pub within : j ≤ n
    pub place : at ≡ record_bytes * (j * k)
    pub vs : List (List Block)
    pub whole : Each k vs
    pub size : length out ≡ length out₀
    pub left : Left (for n (λ j. object_data k (class_of s j))) b c l (turns n (λ j. object_data k (class_of s j)) (λ vs. give vs) j vs) cur
    pub ss : List Scene
    pub stand : cur.no ≡ 0 → Standing ss out₀ out
    pub more : length ss ≡ j * k
    pub rest : (os : List (List Block)) → with_objects k [] (vs ++ os) ≡ with_objects k ss os

pub first : (n : ℕ) (s : Shares) (k : ℕ) (b : Bits) (l : Limit) (c : Cur) (out₀ : List ℕ) → Among n s k b l c out₀ 0 0 c out₀
unfolding bytes_of plain_records onto
first n s k b l c out₀ = record {
  within = omega arith;
  place = omega arith;
  vs = [];
  whole = tt;
  size = refl;
  left = begun n (λ j. object_data k (class_of s j));
  ss = [];
  stand = λ z. refl;
  more = omega arith;
  rest = λ os. refl;
}

module _ {n : ℕ} {s : Shares} {k : ℕ} {b : Bits} {l : Limit} {c : Cur} {out₀ : List ℕ} {j at : ℕ} {cur : Cur} {out : List ℕ} where
  pub further : {cur' : Cur} {out' : List ℕ} (class : ℕ) → Among n s k b l c out₀ j at cur out → j < n
      → class ≡ class_of s j → ObjectRead class k at b cur l out cur' out' → Among n s k b l c out₀ (j + 1) (at + record_bytes * k) cur' out'
  unfolding with_objects
  further class x h e o =
      let f : ℕ → P (List Block) = λ j. object_data k (class_of s j) in
      let r : Reads (f j) b cur l o.value _ = rw e at o.reads in
      let w = length-with_blocks k x.ss nothing_before o.value in
      let d = add-mul j 1 k in
      record {
        within = omega arith;
        place = omega (arith, x.place, d, one-mul k);
        vs = x.vs ++ (o.value ∷ []);
        whole = each_snoc k x.vs o.value x.whole o.long;
        size = o.size ∙ x.size;
        left = for_step n f (λ vs. give vs) j x.vs h x.left r;
        ss = with_blocks k x.ss nothing_before o.value;
        stand = λ z. o.stand z x.ss out₀ (x.stand (unique.begun r z)) (omega (arith, x.place, x.more)) (sym x.size);
        more = omega (arith, w, x.more, o.long, d, one-mul k);
        rest = λ os. ap (with_objects k []) (append_assoc x.vs (o.value ∷ []) os) ∙ x.rest (o.value ∷ os);
      }

  pub finish : Among n s k b l c out₀ j at cur out → n ≤ j → ObjectsRead n s k b c l out₀ cur out
  unfolding with_objects
  finish x h = record {
    value = x.vs;
    reads = done (for-stop n (λ j. object_data k (class_of s j)) (λ vs. give vs) j x.vs (omega (arith, x.within)) x.left);
    size = x.size;
    many = λ z. ap length (sym meant) ∙ x.more ∙ ap (λ (m : ℕ). m * k) (let e : j ≡ n = omega (arith, x.within) in e);
    stand = λ z. x.stand z ∙ ap (λ (us : List Scene). onto (bytes_of (plain_records us)) out₀) meant;
  }
    where
      meant : x.ss ≡ all_scenes [] x.vs
      meant = sym (x.rest []) ∙ ap (with_objects k []) (append-nil x.vs) ∙ same k x.vs x.whole

  pub stop : Among n s k b l c out₀ j at cur out → (cur.no ≡ 0 → ⊥) → ObjectsRead n s k b c l out₀ cur out
  stop x h = record { value = x.vs; reads = broken x.left h; size = x.size; many = λ z. absurd (h z); stand = λ z. absurd (h z) }

-- the records of object j fit
pub room : (n k j : ℕ) → j < n → record_bytes * (j * k) + record_bytes * k ≤ record_bytes * (n * k)
room n k j f = omega (arith, mul-le-mul_right {m = suc j} {n = n} k f, add-mul j 1 k, one-mul k)

-- and those of all objects, however many blocks they have
pub rooms : {n k : ℕ} → n ≤ most_objects → k ≤ most_blocks → (record_bytes * (n * k) ≤ record_bytes * (n * most_blocks)) × (record_bytes * (n * most_blocks) ≤ scratch_bytes)
rooms {n} {k} a d = (omega (arith, mul-le-mul_left n d), omega arith)

-- a buffer that keeps its length keeps its room
pub still-roomy : {n : ℕ} {out out' : List ℕ} → ElementRoom n out → length out' ≡ length out → ElementRoom n out'
still-roomy r e = record { many = r.many; fits = omega (arith, r.fits) }
