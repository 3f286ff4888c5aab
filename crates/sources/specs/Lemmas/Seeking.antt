-- From element to element, to the first of a kind that is looked for: the object element, or the extended one.
use Rattle.std.specs.Prelude.{◌≡◌, refl, Bool, true, false}
use Rattle.std.proofs.Math.Path.{sym, ap}
use Rattle.std.proofs.Common.{◌∙◌, subst, subst₂}
use mathlib.Core.List.{List, [], ◌∷◌, ◌++◌}
use Rattle.std.proofs.Math.Option.{Option, some}
use Prim.Native.Nat.{ℕ, suc, ◌+◌, ◌-◌, ◌*◌, ◌≤◌, ◌<◌}
use native.Mathlib.Omega.{arith}
use Rattle.std.proofs.Math.ListN.{length}
use Rattle.bits.specs.declared.Refusal.TheVariants.{Second, Early}
use Rattle.bits.specs.Refusals.{number_of}
use Rattle.bits.specs.Language.{ok, pick, P, run, bit, past_payload, past_declared}
use Rattle.bits.specs.Steps.{bind_ok, bind_is, give_ok, ok_at}
use Rattle.oamd.specs.declared.Kind.{Kind}
use Rattle.oamd.specs.declared.Kind.TheVariants.{Object, Extended}
use Rattle.oamd.specs.declared.Programme.{Programme}
use Rattle.oamd.specs.Programme.{shares}
use Rattle.oamd.specs.ObjectElement.{ObjectElement, object_element}
use Rattle.oamd.specs.Extended.{Extension, extended_object_element}
use Rattle.oamd.specs.Record.{all_carry}
use Rattle.oamd.specs.Element.{back_to_id, Known, nothing, there, scenes, is_second, is_early, with_object, with_extended, fields, State, read_known, oa_element, oa_element_md, elements}
use Rattle.oamd.specs.Payload.{Payload, Header, header, oa_element_count, object_audio_metadata_payload}
use Rattle.demands.specs.Terms.{parsed}
use Rattle.demands.specs.Lemmas.Frame.{body_at, end_at}
use Rattle.demands.specs.Lemmas.Elements.{refuse_if_ok}
use Rattle.sources.specs.Where.{kinds, payload_kinds, list_of, kinds_in, is_object, is_extended, index_of, object_path, extended_path, bit_of}
use Rattle.sources.specs.Asked.{payload_in}
use Rattle.sources.specs.Lemmas.Meeting.{next, line}
use Rattle.sources.specs.Lemmas.Elements.{Adds, added, kinds-run, stays, other-object, other-extended, is-object, is-extended, some_of}
use Rattle.sources.specs.Lemmas.Walking.{Here, here, along, one_value, one_place, over, Framed, in_frame}

-- ---- what is looked for: the extended element, or else the object element

abbrev pub kind_of : Bool → Kind
kind_of false = Object
kind_of true = Extended

abbrev pub is_wanted : Bool → Kind → Bool
is_wanted false k = is_object k
is_wanted true k = is_extended k

-- it has been read
abbrev pub seen_of : Bool → Known → Bool
seen_of false known = there known.object
seen_of true known = there known.extended

wanted-kind : (extended : Bool) (k : Kind) → is_wanted extended k ≡ true → k ≡ kind_of extended
wanted-kind false k h = is-object k h
wanted-kind true k h = is-extended k h

other-kind : (extended : Bool) (k : Kind) (before now : Known) → is_wanted extended k ≡ false → Adds k before now → seen_of extended now ≡ seen_of extended before
other-kind false k before now h x = ap there (other-object k before now h x)
other-kind true k before now h x = ap there (other-extended k before now h x)

-- ---- before element i of n

abbrev pub raise : ℕ → List ℕ → List ℕ
raise i [] = []
raise i (n ∷ path) = (i + n) ∷ path

-- none of the elements so far is it, and what is left to read is the whole
pub record Seeking (extended : Bool) (s : List ℕ) (alternate n i at : ℕ) : Type 0 where
  pub last : State
  pub known : last.known ≡ (payload_in s).known
  pub st : State
  pub here : Here s (λ l. 2 ∷ raise i l) (elements (payload_in s).programme alternate (n - i) st) last at (8 * length s) past_payload
  pub unseen : seen_of extended st.known ≡ false
  pub ks : List Kind
  pub to : ℕ
  pub ran : run (kinds alternate (n - i)) (bit s) at (8 * length s) past_payload ≡ ok ks to
  pub index : index_of (is_wanted extended) (kinds_in s) ≡ i + index_of (is_wanted extended) ks

module _ {extended : Bool} {s : List ℕ} {alternate n i at : ℕ} (x : Seeking extended s alternate n i at) where
  abbrev programme : Programme
  programme = (payload_in s).programme

  -- the element there, with its frame, and those behind it
  pub record Facing : Type 0 where
    pub now : State
    pub frame : Framed s (λ l. 2 ∷ i ∷ l) alternate (λ k size. oa_element programme (back_to_id alternate size) x.st k) now at (8 * length s) past_payload
    pub others : List Kind
    pub first : x.ks ≡ frame.kind ∷ others
    pub rest : Here s (λ l. 2 ∷ raise (i + 1) l) (elements programme alternate (n - (i + 1)) now) x.last (end_at at frame.size) (8 * length s) past_payload
    pub ran : run (kinds alternate (n - (i + 1))) (bit s) (end_at at frame.size) (8 * length s) past_payload ≡ ok others x.to

  pub facing : i < n → Facing
  unfolding elements kinds oa_element_md
  facing l =
      let more : n - i ≡ suc (n - (i + 1)) = omega arith in
      let m : Here s (λ l. 2 ∷ raise i l) (elements programme alternate (suc (n - (i + 1))) x.st) x.last at (8 * length s) past_payload = rw more at x.here in
      let r : run (kinds alternate (suc (n - (i + 1)))) (bit s) at (8 * length s) past_payload ≡ ok x.ks x.to = rw more at x.ran in
      let t = line m.meets in
      let zero_more : i ≡ i + 0 = omega arith in
      let frame = in_frame alternate (λ k size. oa_element programme (back_to_id alternate size) x.st k)
      (along (λ l. 2 ∷ raise i (0 ∷ l)) (λ n path. ap (λ (i : ℕ). 2 ∷ i ∷ n ∷ path) zero_more) (here t.here)) in
      faced t.gives frame
      (subst (λ (mid : ℕ). Here s (λ l. 2 ∷ raise i (next l)) (elements programme alternate (n - (i + 1)) t.gives) x.last mid (8 * length s) past_payload)
      (one_place t.here.ran frame.passed) (here t.rest)) r
    where
      faced : (now : State) (frame : Framed s (λ l. 2 ∷ i ∷ l) alternate (λ k size. oa_element programme (back_to_id alternate size) x.st k) now at (8 * length s) past_payload)
          → Here s (λ l. 2 ∷ raise i (next l)) (elements programme alternate (n - (i + 1)) now) x.last (end_at at frame.size) (8 * length s) past_payload
          → run (kinds alternate (suc (n - (i + 1)))) (bit s) at (8 * length s) past_payload ≡ ok x.ks x.to → Facing
      faced now frame rest r =
          bind_ok _ _ (bit s) at (8 * length s) past_payload r λ k p1 h1 r1.
          bind_ok _ _ (bit s) p1 (8 * length s) past_payload r1 λ ks p2 h2 r2.
          let g = give_ok _ (bit s) p2 (8 * length s) past_payload r2 in
          record {
            now = now;
            frame = frame;
            others = ks;
            first = sym g.0 ∙ ap (λ (k : Kind). k ∷ ks) (one_value h1 frame.known);
            rest = along (λ l. 2 ∷ raise i (next l)) (λ n path. ap (λ (i : ℕ). 2 ∷ i ∷ path) (let e : i + 1 + n ≡ i + suc n = omega arith in e)) rest;
            ran = ok_at (subst (λ (at : ℕ). run (kinds alternate (n - (i + 1))) (bit s) at (8 * length s) past_payload ≡ ok ks p2) (one_place h1 frame.known) h2) g.1;
          }

  module _ (f : Facing) where
    -- another element is passed over
    pub seek-on : is_wanted extended f.frame.kind ≡ false → Seeking extended s alternate n (i + 1) (end_at at f.frame.size)
    unfolding index_of
    seek-on no-match =
        let adds = (added programme _ x.st f.frame.kind (bit s) _ _ past_declared f.frame.inside.meets.ran).adds in
        record {
          last = x.last;
          known = x.known;
          st = f.now;
          here = f.rest;
          unseen = other-kind extended f.frame.kind x.st.known f.now.known no-match adds ∙ x.unseen;
          ks = f.others;
          to = x.to;
          ran = f.ran;
          index =
              x.index ∙ ap (λ (ks : List Kind). i + index_of (is_wanted extended) ks) f.first
              ∙ ap (λ (t : Bool). i + pick t 0 (suc (index_of (is_wanted extended) f.others))) no-match ∙ omega arith;
        }

    pub found-index : is_wanted extended f.frame.kind ≡ true → index_of (is_wanted extended) (kinds_in s) ≡ i
    unfolding index_of
    found-index match =
        x.index ∙ ap (λ (ks : List Kind). i + index_of (is_wanted extended) ks) f.first
        ∙ ap (λ (t : Bool). i + pick t 0 (suc (index_of (is_wanted extended) f.others))) match ∙ omega arith

  -- there is none
  pub seek_none : n ≤ i → seen_of extended (payload_in s).known ≡ false
  unfolding elements
  seek_none l =
      let none_left : n - i ≡ 0 = omega arith in
      let m : Here s (λ l. 2 ∷ raise i l) (elements programme alternate 0 x.st) x.last at (8 * length s) past_payload = rw none_left at x.here in
      ap (seen_of extended) (sym x.known ∙ ap (λ (st : State). st.known) (sym (give_ok _ (bit s) at (8 * length s) past_payload m.meets.ran).0)) ∙ x.unseen

-- ---- the fields of the element

-- what was read of them, and where
pub record Found {A : Type 0} (s : List ℕ) (found : Option A) (way : List ℕ → List ℕ) (p : P A) (at end : ℕ) : Type 0 where
  pub value : A
  pub is : found ≡ some value
  pub here : Here s way p value at end past_declared

abbrev pub FoundOf : Bool → List ℕ → ℕ → ℕ → Type 0
FoundOf false s at end =
    Found s (payload_in s).known.object (λ l. object_path s ++ l) (object_element (payload_in s).programme.objects (shares (payload_in s).programme)) at end
FoundOf true s at end =
    Found s (payload_in s).known.extended (λ l. extended_path s ++ l) (extended_object_element (all_carry (scenes (payload_in s).known.object))) at end

-- behind the tests for a second element and for an early one
record Tested (p : Programme) (k : Kind) (st now : State) (s : List ℕ) (way : List ℕ → List ℕ) (at e o : ℕ) : Type 0 where
  timely : is_early k st.known ≡ false
  here : Here s (λ l. way (2 ∷ l)) (fields p k st.known) now.known at e o

tested : (p : Programme) (back : ℕ) (k : Kind) (st now : State) {s : List ℕ} {way : List ℕ → List ℕ} {at e o : ℕ} → Here s way (read_known p back st k) now at e o
    → Tested p k st now s way at e o
unfolding read_known
tested p back k st now {s} {way} {at} {e} {o} m =
    let first = line m.meets in
    let timely = line first.rest in
    let these = line timely.rest in
    let y = refuse_if_ok (is_second k st.known) (number_of Second) back k (bit s) at e o first.here.ran in
    let z = refuse_if_ok (is_early k st.known) (number_of Early) back k (bit s) first.mid e o timely.here.ran in
    let same = ap (λ (st : State). st.known) (give_ok _ (bit s) these.mid e o these.rest.ran).0 in
    record {
      timely = z.0;
      here = subst₂ (λ (known : Known) (at : ℕ). Here s (λ l. way (2 ∷ l)) (fields p k st.known) known at e o) same (z.1 ∙ y.1) (here these.here);
    }

-- the clause of either element
object_here : (p : Programme) (back : ℕ) (st now : State) (k : Kind) {s : List ℕ} {way : List ℕ → List ℕ} {at e o : ℕ} → k ≡ Object → Here s way (oa_element p back st k) now at e o
    → (x : ObjectElement) × (now.known ≡ with_object x st.known) × Here s (λ l. way (2 ∷ 0 ∷ l)) (object_element p.objects (shares p)) x at e o
unfolding oa_element fields
object_here p back st now k {s} {way} {at} {e} {o} is m =
    let t = line (tested p back Object st now (subst (λ (k : Kind). Here s way (oa_element p back st k) now at e o) is m)).here.meets in
    (t.gives, sym (give_ok _ (bit s) t.mid e o t.rest.ran).0, here t.here)

extended_here : (p : Programme) (back : ℕ) (st now : State) (k : Kind) {s : List ℕ} {way : List ℕ → List ℕ} {at e o : ℕ} → k ≡ Extended → Here s way (oa_element p back st k) now at e o
    → (x : Extension) × (now.known ≡ with_extended x st.known) × (is_early Extended st.known ≡ false)
    × Here s (λ l. way (2 ∷ 0 ∷ l)) (extended_object_element (all_carry (scenes st.known.object))) x at e o
unfolding oa_element fields
extended_here p back st now k {s} {way} {at} {e} {o} is m =
    let u = tested p back Extended st now (subst (λ (k : Kind). Here s way (oa_element p back st k) now at e o) is m) in
    let t = line u.here.meets in
    (t.gives, sym (give_ok _ (bit s) t.mid e o t.rest.ran).0, u.timely, here t.here)

module _ {s : List ℕ} {alternate n i at : ℕ} where
  -- what was read of an element stays
  object-stays : {extended : Bool} (x : Seeking extended s alternate n i at) (f : Facing x) (e : ObjectElement) → f.now.known.object ≡ some e → (payload_in s).known.object ≡ some e
  object-stays x f e is =
      ap (λ (known : Known). known.object) (sym x.known)
      ∙ stays Object is_object (λ known. known.object) refl is-object (λ before. refl) other-object (payload_in s).programme alternate (n - (i + 1)) f.now s _ _ _ f.rest.meets.ran e is

  extended-stays : (x : Seeking true s alternate n i at) (f : Facing x) (e : Extension) → f.now.known.extended ≡ some e → (payload_in s).known.extended ≡ some e
  extended-stays x f e is =
      ap (λ (known : Known). known.extended) (sym x.known)
      ∙ stays Extended is_extended (λ known. known.extended) refl is-extended (λ before. refl) other-extended (payload_in s).programme alternate (n - (i + 1)) f.now s _ _ _
      f.rest.meets.ran e is

  -- the object element
  pub seek-object : (x : Seeking false s alternate n i at) (f : Facing x) → is_object f.frame.kind ≡ true
      → FoundOf false s (body_at at alternate f.frame.size) (end_at at f.frame.size)
  seek-object x f match =
      let t = object_here (payload_in s).programme (back_to_id alternate f.frame.size) x.st f.now f.frame.kind (is-object f.frame.kind match) f.frame.inside in
      record {
        value = t.0;
        is = object-stays x f t.0 (ap (λ (known : Known). known.object) t.1);
        here = along (λ l. 2 ∷ i ∷ 6 ∷ 0 ∷ l) (λ n path. ap (λ (i : ℕ). 2 ∷ i ∷ 6 ∷ 0 ∷ n ∷ path) (found-index x f match)) t.2;
      }

  -- the extended one, which stands behind it
  pub seek-extended : (x : Seeking true s alternate n i at) (f : Facing x) → is_extended f.frame.kind ≡ true
      → FoundOf true s (body_at at alternate f.frame.size) (end_at at f.frame.size)
  seek-extended x f match =
      let t = extended_here (payload_in s).programme (back_to_id alternate f.frame.size) x.st f.now f.frame.kind (is-extended f.frame.kind match) f.frame.inside in
      let o = some_of x.st.known.object t.2 in
      let same : x.st.known.object ≡ (payload_in s).known.object = o.1 ∙ sym (object-stays x f o.0 (ap (λ (known : Known). known.object) t.1 ∙ o.1)) in
      record {
        value = t.0;
        is = extended-stays x f t.0 (ap (λ (known : Known). known.extended) t.1);
        here = along (λ l. 2 ∷ i ∷ 6 ∷ 0 ∷ l) (λ n path. ap (λ (i : ℕ). 2 ∷ i ∷ 6 ∷ 0 ∷ n ∷ path) (found-index x f match))
            (subst (λ (o : Option ObjectElement). Here s (λ l. 2 ∷ i ∷ 6 ∷ 0 ∷ l) (extended_object_element (all_carry (scenes o))) t.0 (body_at at alternate f.frame.size)
            (end_at at f.frame.size) past_declared) same t.3);
      }

-- ---- from the payload's first bit to its elements

none_seen : (extended : Bool) → seen_of extended nothing ≡ false
none_seen false = refl
none_seen true = refl

begun : (extended : Bool) (s : List ℕ) (alternate n at : ℕ) (last : State) → last.known ≡ (payload_in s).known
    → Here s (λ l. 2 ∷ l) (elements (payload_in s).programme alternate n (record { known = nothing; unknown = 0 })) last at (8 * length s) past_payload
    → (ks : List Kind) {to : ℕ} → run (kinds alternate n) (bit s) at (8 * length s) past_payload ≡ ok ks to → kinds_in s ≡ ks → Seeking extended s alternate n 0 at
begun extended s alternate n at last known m ks {to} r all =
    let all_left : n ≡ n - 0 = omega arith in
    record {
      last = last;
      known = known;
      st = record { known = nothing; unknown = 0 };
      here = along (λ l. 2 ∷ l) (λ n path. ap (λ (n : ℕ). 2 ∷ n ∷ path) (let e : 0 + n ≡ n = omega arith in e)) (rw all_left at m);
      unseen = none_seen extended;
      ks = ks;
      to = to;
      ran = rw all_left at r;
      index = ap (index_of (is_wanted extended)) all ∙ omega arith;
    }

pub seek_start : (extended : Bool) (s : List ℕ) {to : ℕ} → parsed s ≡ ok (payload_in s) to → (h : Header) (p : ℕ) → run header (bit s) 0 (8 * length s) past_payload ≡ ok h p
    → (n at : ℕ) → run oa_element_count (bit s) p (8 * length s) past_payload ≡ ok n at
    → (h.programme ≡ (payload_in s).programme) × Seeking extended s h.alternate n 0 at
unfolding object_audio_metadata_payload bit_of kinds_in payload_kinds
seek_start extended s {to} ran h p hh n at hn =
    let whole : Here s (λ l. l) object_audio_metadata_payload (payload_in s) 0 (8 * length s) past_payload = record { to = to; meets = record { ran = ran; comes = λ n path. refl } } in
    let t = line (over (over whole hh) hn).meets in
    let g = (give_ok _ (bit s) t.mid (8 * length s) past_payload t.rest.ran).0 in
    let same : h.programme ≡ (payload_in s).programme = ap (λ (q : Payload). q.programme) g in
    let ks = kinds-run h.programme h.alternate n (record { known = nothing; unknown = 0 }) t.here in (
      same,
      begun extended s h.alternate n at t.gives (ap (λ (q : Payload). q.known) g)
          (subst (λ (p : Programme). Here s (λ l. 2 ∷ l) (elements p h.alternate n (record { known = nothing; unknown = 0 })) t.gives at (8 * length s) past_payload) same (here t.here))
          ks.0 ks.1 (ap list_of (bind_is _ _ (bit s) 0 (8 * length s) past_payload hh ∙ bind_is _ _ (bit s) p (8 * length s) past_payload hn ∙ ks.1)),
    )
