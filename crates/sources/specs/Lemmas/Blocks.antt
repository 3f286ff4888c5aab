-- The blocks of an accepted payload: how many there are, where each was read, and what is known of it.
use Rattle.std.specs.Prelude.{◌≡◌, refl, Bool, true, false, ℕ, zero, suc, ◌+◌, ◌≤◌, ◌<◌, eqb, get_or}
use Rattle.std.proofs.Common.{sym, ap, ◌∙◌, subst, arith}
use mathlib.Core.List.{List, [], ◌∷◌, ◌++◌}
use Rattle.std.proofs.Math.Option.{Option, none, some}
use Rattle.std.proofs.Math.ListN.{length}
use Rattle.std.proofs.lemmas.Bool.{eqb-false}
use Rattle.bits.specs.Language.{ok, P, bit, for, from}
use Rattle.bits.specs.Bytes.{bit_lt}
use Rattle.bits.specs.Steps.{give_ok}
use Rattle.bits.specs.Laws.{each_long, length_from}
use Rattle.bits.specs.Terms.{Ensures, Every}
use Rattle.bits.specs.Ensures.{ensured, e-give, e-bind, e-any, e-then, e_if}
use Rattle.oamd.proofs.Seed.{Alone, block_0-alone}
use Rattle.oamd.specs.declared.Status.{Status}
use Rattle.oamd.specs.Programme.{set?, shares, class_of}
use Rattle.oamd.specs.Timing.{timing_of}
use Rattle.oamd.specs.Block.{has_screen, screen, object_render_info, object_info_block}
use Rattle.oamd.specs.ObjectElement.{ObjectElement, object_data, object_element}
use Rattle.oamd.specs.Payload.{Payload, timing, tables}
use Rattle.demands.specs.Terms.{parsed}
use Rattle.demands.specs.Lemmas.Limits.{Blocked, limits}
use Rattle.oamd.specs.Tables.{most_blocks}
use Rattle.sources.specs.Places.{entry}
use Rattle.sources.specs.Sources.{info_block}
use Rattle.sources.specs.Where.{object_path, path_of}
use Rattle.sources.specs.Chain.{objects_in, blocks_in, no_block, coded_in, block_at}
use Rattle.sources.specs.Lemmas.ByField.{Read}
use Rattle.sources.specs.Lemmas.Meeting.{Met, met, line, at_entry}
use Rattle.sources.specs.Lemmas.Elements.{object-met}

-- entry k of the n numbers from i on
get_or-from : (i n k : ℕ) → k < n → (blank : ℕ) → get_or (from i n) k blank ≡ i + k
unfolding from
get_or-from i zero k l blank = absurd (omega arith)
get_or-from i (suc n) zero l blank = omega arith
get_or-from i (suc n) (suc k) l blank = get_or-from (suc i) n k (omega arith) blank ∙ omega arith

-- entry k of a loop over n numbers
pub at_turn : {A : Type 0} {s : List ℕ} {way : List ℕ → List ℕ} (n : ℕ) (f : ℕ → P A) {vs : List A} → Met s way (for n f) vs → (k : ℕ) → k < n → (blank : A)
    → Met s (λ l. way (entry k ++ l)) (f k) (get_or vs k blank)
at_turn n f m k l blank =
    let e : get_or (from 0 n) k 0 ≡ k = get_or-from 0 n k l 0 ∙ omega arith in
    rw e at (at_entry f (from 0 n) m.meets k (omega (arith, length_from 0 n)) 0 blank)

turns_long : {A : Type 0} {s : List ℕ} {way : List ℕ → List ℕ} (n : ℕ) (f : ℕ → P A) {vs : List A} → Met s way (for n f) vs → length vs ≡ n
turns_long {s = s} n f m = each_long f (from 0 n) (bit s) m.at m.end m.past m.meets.ran ∙ length_from 0 n

every_of : {A : Type 0} (Q : A → Type 0) (xs : List A) (blank : A) → ((i : ℕ) → i < length xs → Q (get_or xs i blank)) → Every Q xs
every_of Q [] blank h = tt
every_of Q (x ∷ xs) blank h = (h 0 (omega arith), every_of Q xs blank (λ i l. h (suc i) (omega arith)))

-- ---- what a block is, as it is read

-- a flag that is not set is 0
clear : (on : Bool) (v : ℕ) → (on ≡ true → v < 2) → (on ≡ false → 0 ≡ v) → set? v ≡ false → v ≡ 0
clear true v f g h = let l = f refl in let n = eqb-false v 1 h in omega arith
clear false v f g h = sym (g refl)

-- what the flag b_object_use_screen_ref leaves out is as that flag
screen-read : (on : Bool) → Ensures (screen on) (λ s. set? s.used ≡ false → (s.factor ≡ s.used) × (s.depth ≡ s.used))
unfolding screen
screen-read on =
    e-bind _ _ _ (e_if on 1 _ λ used l z.
    e-bind _ _ _ (e_if (set? used) 3 _ λ factor l1 z1.
    e-bind _ _ _ (e_if (set? used) 2 _ λ depth l2 z2.
    e-give _ _ λ q.
    let none = clear on used l z q in
    (sym (z1 q) ∙ sym none, sym (z2 q) ∙ sym none))))

render-read : (status : Status) (first : Bool)
    → Ensures (object_render_info status first) (λ r. set? r.screen.used ≡ false → (r.screen.factor ≡ r.screen.used) × (r.screen.depth ≡ r.screen.used))
unfolding object_render_info
render-read status first =
    e-bind _ _ _ (e-any _ _ λ parts.
    e-bind _ _ _ (e-any _ _ λ position.
    e-bind _ _ _ (e-any _ _ λ distance.
    e-bind _ _ _ (e-any _ _ λ zone.
    e-bind _ _ _ (e-any _ _ λ extent.
    e-bind _ _ _ (e-then _ _ _ (screen-read (has_screen parts)) λ screen h.
    e-bind _ _ _ (e-any _ _ λ snap.
    e-give _ _ h)))))))

block_read : (class blk : ℕ) → Ensures (object_info_block class blk) (Read class)
unfolding object_info_block
block_read class blk =
    e-bind _ _ _ (e-any _ _ λ inactive.
    e-bind _ _ _ (e-any _ _ λ status.
    e-bind _ _ _ (e-any _ _ λ basic.
    e-bind _ _ _ (e-any _ _ λ status'.
    e-bind _ _ _ (e-then _ _ _ (render-read status' (eqb blk 0)) λ render h.
    e-bind _ _ _ (e-any _ _ λ additional.
    e-give _ _ (record { same = refl; active = omega arith; factor = λ q. (h q).0; depth = λ q. (h q).1 })))))))

-- ---- the object element

-- where there is a block, there is an object element
record Has (q : Payload) : Type 0 where
  element : ObjectElement
  is : q.known.object ≡ some element
  blocks : blocks_in q ≡ length element.timing.blocks
  coded : coded_in q.known.object ≡ element.objects

has : (q : Payload) (b : ℕ) → b < blocks_in q → Has q
unfolding tables timing timing_of
has q b l = go q.known.object refl l
  where
    go : (o : Option ObjectElement) → q.known.object ≡ o → b < (timing o).blocks → Has q
    go none is l = absurd (omega arith)
    go (some e) is l = record { element = e; is = is; blocks = ap (λ (o : Option ObjectElement). (timing o).blocks) is; coded = ap coded_in is }

module _ (s : List ℕ) {q : Payload} {to : ℕ} (h : parsed s ≡ ok q to) where
  pub few-blocks : (b : ℕ) → b < blocks_in q → blocks_in q ≤ most_blocks
  few-blocks b l =
      let x = has q b l in
      let few = (subst Blocked x.is (limits s h).object).few in
      rw x.blocks few

  -- the loop over objects
  objects-met : (b : ℕ) → b < blocks_in q
      → Met s (λ l. object_path s ++ (3 ∷ l)) (for (objects_in q) (λ j. object_data (blocks_in q) (class_of (shares q.programme) j))) (coded_in q.known.object)
  unfolding object_element
  objects-met b l =
      let x = has q b l in
      let m = object-met s h x.element x.is in
      let t = line (line (line (line m.meets).rest).rest).rest in
      rw (x.blocks, x.coded)
      (subst (λ (e : ObjectElement). Met s (λ l. object_path s ++ (3 ∷ l)) (for (objects_in q) (λ j. object_data (length e.timing.blocks) (class_of (shares q.programme) j))) e.objects)
      (give_ok _ (bit s) t.mid m.end m.past t.rest.ran).0 (met t.here))

  -- block b of object j, where its path leads
  pub block-met : (j b : ℕ) → j < objects_in q → b < blocks_in q
      → Met s (path_of s (blocks_in q) j b info_block) (object_info_block (class_of (shares q.programme) j) b) (block_at q j b)
  unfolding object_data block_at path_of
  block-met j b l m = at_turn (blocks_in q) _ (at_turn (objects_in q) _ (objects-met b m) j l []) b m no_block

  -- as many objects as the programme has, of as many blocks each as the timing has
  pub objects_long : (b : ℕ) → b < blocks_in q → length (coded_in q.known.object) ≡ objects_in q
  objects_long b m = turns_long (objects_in q) _ (objects-met b m)

  pub blocks_long : (b : ℕ) → b < blocks_in q → Every (λ o. length o ≡ blocks_in q) (coded_in q.known.object)
  unfolding object_data
  blocks_long b m =
      let long = objects_long b m in
      every_of (λ o. length o ≡ blocks_in q) (coded_in q.known.object) [] λ j l.
      turns_long (blocks_in q) _ (at_turn (objects_in q) _ (objects-met b m) j (omega (arith, long)) [])

  -- what is known of each, and that the first takes nothing from a block before
  pub read_at : (j b : ℕ) → j < objects_in q → b < blocks_in q → Read (class_of (shares q.programme) j) (block_at q j b)
  read_at j b l m =
      let x = block-met j b l m in
      ensured _ _ (block_read _ b) (bit s) (bit_lt s) x.at x.end x.past x.meets.ran

  pub first_at : (j : ℕ) → j < objects_in q → 0 < blocks_in q → Alone (block_at q j 0)
  first_at j l m =
      let x = block-met j 0 l m in
      ensured _ _ (block_0-alone _) (bit s) (bit_lt s) x.at x.end x.past x.meets.ran
