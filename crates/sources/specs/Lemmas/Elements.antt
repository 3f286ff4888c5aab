-- Where reading a payload comes to the object element and to the extended one.
use Rattle.std.specs.Prelude.{◌≡◌, Bool, not, List, [], ◌∷◌, ◌++◌, length}
use Rattle.std.proofs.Math.Path.{refl, ap, subst₂}
use Rattle.std.proofs.Common.{sym, ◌∙◌, subst, true≢false}
use Rattle.std.proofs.Math.Bool.{true, false}
use Rattle.std.proofs.lemmas.Bool.{false≢true}
use Rattle.std.proofs.Math.Option.{Option, none, some}
use Prim.Native.Nat.{ℕ, zero, suc, ◌+◌, ◌*◌}
use Rattle.bits.specs.declared.Size.{Size}
use Rattle.bits.specs.Language.{Res, ok, pick, and_then, Bits, P, give, run, bit, past_payload, past_declared}
use Rattle.bits.specs.Steps.{bind_ok, bind_is, give_ok, give_is, within_is, value, and_then_ok}
use Rattle.oamd.specs.declared.Kind.{Kind}
use Rattle.oamd.specs.declared.Kind.TheVariants.{Unknown, Object, Trim, Extended}
use Rattle.oamd.specs.declared.Programme.{Programme}
use Rattle.oamd.specs.Programme.{shares}
use Rattle.oamd.specs.ObjectElement.{ObjectElement, object_element}
use Rattle.oamd.specs.Extended.{Extension, extended_object_element}
use Rattle.oamd.specs.Trim.{TrimTable}
use Rattle.oamd.specs.Record.{all_carry}
use Rattle.oamd.specs.Element.{kind, declared_length, back_to_id, framed, Known, nothing, there, scenes, is_second, is_early, with_object, with_trim, with_extended, fields, State}
use Rattle.oamd.specs.Element.{pass_over, read_known, oa_element, oa_element_md, elements}
use Rattle.oamd.specs.Payload.{Payload, object_audio_metadata_payload}
use Rattle.demands.specs.Terms.{parsed}
use Rattle.demands.specs.Lemmas.Frame.{frame-of}
use Rattle.demands.specs.Lemmas.Elements.{by_kind, fields_of}
use Rattle.sources.specs.Where.{kinds, payload_kinds, list_of, kinds_in, is_object, is_extended, index_of, object_path, extended_path, bit_of}
use Rattle.sources.specs.Lemmas.Meeting.{Meets, Met, met, next, line, held}

-- ---- the frame of an element

-- its kind, which every reader of frames finds, and what stands inside
record Framed {A : Type 0} (s : List ℕ) (way : List ℕ → List ℕ) (alternate : ℕ) (f : Kind → Size → P A) (v : A) (at e o to : ℕ) : Type 0 where
  kind : Kind
  size : Size
  body : ℕ
  end : ℕ
  behind : ℕ
  inside : Meets s (λ l. way (next (next (next (next l))))) (f kind size) v body end past_declared behind
  alike : run (framed alternate (λ k size. give k)) (bit s) at e o ≡ ok kind to

inside-frame : {A : Type 0} {s : List ℕ} {way : List ℕ → List ℕ} (alternate : ℕ) (f : Kind → Size → P A) {v : A} {at e o to : ℕ}
    → Meets s way (framed alternate f) v at e o to → Framed s way alternate f v at e o to
unfolding framed
inside-frame {s = s} alternate f {at = at} {e} {o} m =
    let id = line m in
    let size = line id.rest in
    let in-it = held size.rest in
    let other = line in-it.inside in
    let discard = line other.rest in
    let b = bit s in
    let end : ℕ = size.mid + declared_length size.gives in
    record {
      kind = kind id.gives other.gives;
      size = size.gives;
      body = discard.mid;
      end = end;
      behind = in-it.mid;
      inside = discard.rest;
      alike =
          bind_is _ _ b at e o id.here.ran ∙ bind_is _ _ b id.mid e o size.here.ran ∙ within_is _ _ _ b size.mid e o in-it.fits
          ∙ ap (λ (r : Res Kind). and_then r (λ a mid. ok a end))
          (bind_is _ _ b size.mid end past_declared other.here.ran ∙ bind_is _ _ b other.mid end past_declared discard.here.ran
          ∙ give_is _ b discard.mid end past_declared)
          ∙ ap (λ (n : ℕ). ok (kind id.gives other.gives) n) (sym in-it.ends);
    }

-- ---- what an element adds to what is known

abbrev pub Adds : Kind → Known → Known → Type 0
Adds Unknown known now = now ≡ known
Adds Object known now = (e : ObjectElement) × (now ≡ with_object e known)
Adds Trim known now = (t : TrimTable) × (now ≡ with_trim t known)
Adds Extended known now = (x : Extension) × (now ≡ with_extended x known)

pub record Added (k : Kind) (known now : Known) : Type 0 where
  pub first : is_second k known ≡ false
  pub timely : is_early k known ≡ false
  pub adds : Adds k known now

pub added : (p : Programme) (back : ℕ) (st : State) (k : Kind) (b : Bits) (at e o : ℕ) {now : State} {to : ℕ} → run (oa_element p back st k) b at e o ≡ ok now to
    → Added k st.known now.known
unfolding oa_element pass_over fields
added p back st Unknown b at e o h = record { first = refl; timely = refl; adds = ap (λ (st : State). st.known) (sym (give_ok _ b at e o h).0) }
added p back st Object b at e o h =
    let x = fields_of p back st Object b at e o h in
    bind_ok _ _ b at e o x.ran λ v mid r g. record { first = x.first; timely = x.timely; adds = (v, sym (give_ok _ b mid e o g).0) }
added p back st Trim b at e o h =
    let x = fields_of p back st Trim b at e o h in
    bind_ok _ _ b at e o x.ran λ v mid r g. record { first = x.first; timely = x.timely; adds = (v, sym (give_ok _ b mid e o g).0) }
added p back st Extended b at e o h =
    let x = fields_of p back st Extended b at e o h in
    bind_ok _ _ b at e o x.ran λ v mid r g. record { first = x.first; timely = x.timely; adds = (v, sym (give_ok _ b mid e o g).0) }

element-added : (p : Programme) (alternate : ℕ) (st : State) (b : Bits) (at e o : ℕ) {now : State} {to : ℕ} → run (oa_element_md p alternate st) b at e o ≡ ok now to
    → (k : Kind) × Added k st.known now.known
unfolding oa_element_md
element-added p alternate st b at e o h =
    let f = frame-of alternate _ b at e o h in
    let t = and_then_ok _ _ (sym (f.same _) ∙ h) in
    (f.kind, rw (value t.3) at (added p (back_to_id alternate f.size) st f.kind b _ _ _ t.2))

-- the kinds of the elements, read by themselves
pub kinds-run : (p : Programme) (alternate n : ℕ) (st : State) {s : List ℕ} {way : List ℕ → List ℕ} {at e o to : ℕ} {last : State}
    → Meets s way (elements p alternate n st) last at e o to → (ks : List Kind) × (run (kinds alternate n) (bit s) at e o ≡ ok ks to)
unfolding elements kinds oa_element_md
kinds-run p alternate zero st {s} {at = at} {e} {o} m = ([], give_is _ (bit s) at e o ∙ ap (λ (n : ℕ). ok [] n) (sym (give_ok _ (bit s) at e o m.ran).1))
kinds-run p alternate (suc n) st {s} {at = at} {e} {o} m =
    let t = line m in
    let f = inside-frame alternate _ t.here in
    let r = kinds-run p alternate n t.gives t.rest in
    (f.kind ∷ r.0, bind_is _ _ (bit s) at e o f.alike ∙ bind_is _ _ (bit s) t.mid e o r.1 ∙ give_is _ (bit s) _ e o)

-- ---- the elements, of which one adds what get finds among the known

-- element i is of the kind: its fields, read beside what was known then, and the elements behind it
record Finds (kind : Kind) (p : Programme) (alternate : ℕ) (s : List ℕ) (way : List ℕ → List ℕ) (i : ℕ) (last : State) (e o : ℕ) : Type 0 where
  known : Known
  timely : is_early kind known ≡ false
  now : State
  here : Met s (λ l. way (i ∷ 6 ∷ l)) (fields p kind known) now.known
  others : ℕ
  at : ℕ
  to : ℕ
  later : run (elements p alternate others now) (bit s) at e o ≡ ok last to

module _ {A : Type 0} (kind : Kind) (is : Kind → Bool) (get : Known → Option A) (known : is Unknown ≡ false) (only : (k : Kind) → is k ≡ true → k ≡ kind)
    (second : (before : Known) → is_second kind before ≡ there (get before))
    (other : (k : Kind) (before now : Known) → is k ≡ false → Adds k before now → get now ≡ get before) where
  -- it stays
  stays-behind : (k : Kind) (before now : Known) → Added k before now → (a : A) → get before ≡ some a → get now ≡ some a
  stays-behind k before now x a h = go (is k) refl
    where
      go : (t : Bool) → is k ≡ t → get now ≡ some a
      go true q = absurd (true≢false (ap there (sym h) ∙ sym (second before) ∙ ap (λ (k : Kind). is_second k before) (sym (only k q)) ∙ x.first))
      go false q = other k before now q x.adds ∙ h

  pub stays : (p : Programme) (alternate n : ℕ) (st : State) (s : List ℕ) (at e o : ℕ) {last : State} {to : ℕ} → run (elements p alternate n st) (bit s) at e o ≡ ok last to
      → (a : A) → get st.known ≡ some a → get last.known ≡ some a
  unfolding elements
  stays p alternate zero st s at e o h a g = ap (λ (st : State). get st.known) (sym (give_ok _ (bit s) at e o h).0) ∙ g
  stays p alternate (suc n) st s at e o h a g =
      bind_ok _ _ (bit s) at e o h λ mid p1 h1 h2.
      let x = element-added p alternate st (bit s) at e o h1 in
      stays p alternate n mid s p1 e o h2 a (stays-behind x.0 st.known mid.known x.1 a g)

  -- the fields of the element, where it is of the kind
  fields_here : (p : Programme) (back : ℕ) (st now : State) (s : List ℕ) (way : List ℕ → List ℕ) (at e o to : ℕ) (k : Kind) → is k ≡ true
      → Meets s way (oa_element p back st k) now at e o to → Met s (λ l. way (2 ∷ l)) (fields p kind st.known) now.known
  unfolding read_known
  fields_here p back st now s way at e o to =
      by_kind p back st (λ k x. is k ≡ true → Meets s way x now at e o to → Met s (λ l. way (2 ∷ l)) (fields p kind st.known) now.known)
      (λ q m. absurd (false≢true (sym known ∙ q)))
      (λ k is q m.
      let read = line (line (line m).rest).rest in
      let same = ap (λ (st : State). st.known) (give_ok _ (bit s) read.mid e o read.rest.ran).0 in
      subst₂ (λ (k : Kind) (now : Known). Met s (λ l. way (2 ∷ l)) (fields p k st.known) now) (only k q) same (met read.here))

  finds : (p : Programme) (alternate n : ℕ) (st : State) {s : List ℕ} {way : List ℕ → List ℕ} {at e o to : ℕ} {last : State}
      (m : Meets s way (elements p alternate n st) last at e o to) → get st.known ≡ none → there (get last.known) ≡ true
      → Finds kind p alternate s way (index_of is (kinds-run p alternate n st m).0) last e o
  unfolding elements oa_element_md kinds-run index_of
  finds p alternate zero st {s} {at = at} {e} {o} m before after =
      absurd (false≢true (ap there (sym before) ∙ ap (λ (st : State). there (get st.known)) (give_ok _ (bit s) at e o m.ran).0 ∙ after))
  finds p alternate (suc n) st {s} {way} {e = e} {o} {to} {last} m before after =
      let t = line m in
      let f = inside-frame alternate _ t.here in
      let x = added p _ st f.kind (bit s) f.body f.end past_declared f.inside.ran in
      either (is f.kind) _ refl
      (λ q. record {
        known = st.known;
        timely = ap (λ (k : Kind). is_early k st.known) (sym (only _ q)) ∙ x.timely;
        now = t.gives;
        here = fields_here p _ st t.gives s _ f.body f.end past_declared f.behind f.kind q f.inside;
        others = n;
        at = t.mid;
        to = to;
        later = t.rest.ran;
      })
      (λ q. finds p alternate n t.gives t.rest (other f.kind st.known t.gives.known q x.adds ∙ before) after)
    where
      either : (t : Bool) (i : ℕ) {u : Bool} → u ≡ t → (u ≡ true → Finds kind p alternate s way 0 last e o) → (u ≡ false → Finds kind p alternate s (λ l. way (next l)) i last e o)
          → Finds kind p alternate s way (pick t 0 (suc i)) last e o
      either true i q this behind = this q
      either false i q this behind = let x = behind q in record {
        known = x.known;
        timely = x.timely;
        now = x.now;
        here = x.here;
        others = x.others;
        at = x.at;
        to = x.to;
        later = x.later;
      }

-- ---- the two kinds

pub other-object : (k : Kind) (before now : Known) → is_object k ≡ false → Adds k before now → now.object ≡ before.object
other-object Unknown before now q x = ap (λ (known : Known). known.object) x
other-object Object before now q x = absurd (true≢false q)
other-object Trim before now q x = ap (λ (known : Known). known.object) x.1
other-object Extended before now q x = ap (λ (known : Known). known.object) x.1

pub other-extended : (k : Kind) (before now : Known) → is_extended k ≡ false → Adds k before now → now.extended ≡ before.extended
other-extended Unknown before now q x = ap (λ (known : Known). known.extended) x
other-extended Object before now q x = ap (λ (known : Known). known.extended) x.1
other-extended Trim before now q x = ap (λ (known : Known). known.extended) x.1
other-extended Extended before now q x = absurd (true≢false q)

pub is-object : (k : Kind) → is_object k ≡ true → k ≡ Object
is-object Unknown q = absurd (false≢true q)
is-object Object q = refl
is-object Trim q = absurd (false≢true q)
is-object Extended q = absurd (false≢true q)

pub is-extended : (k : Kind) → is_extended k ≡ true → k ≡ Extended
is-extended Unknown q = absurd (false≢true q)
is-extended Object q = absurd (false≢true q)
is-extended Trim q = absurd (false≢true q)
is-extended Extended q = refl

-- ---- the payload

record Parts (s : List ℕ) (q : Payload) : Type 0 where
  alternate : ℕ
  count : ℕ
  last : State
  at : ℕ
  to : ℕ
  known : q.known ≡ last.known
  met : Meets s (λ l. 2 ∷ l) (elements q.programme alternate count (record { known = nothing; unknown = 0 })) last at (8 * length s) past_payload to
  all : kinds_in s ≡ (kinds-run q.programme alternate count (record { known = nothing; unknown = 0 }) met).0

parts : (s : List ℕ) {q : Payload} {to : ℕ} → parsed s ≡ ok q to → Parts s q
unfolding object_audio_metadata_payload kinds_in payload_kinds bit_of
parts s {q} {to} h =
    let whole : Meets s (λ l. l) object_audio_metadata_payload q 0 (8 * length s) past_payload to = record { ran = h; comes = λ n path. refl } in
    let header = line whole in
    let count = line header.rest in
    let these = line count.rest in
    let end : ℕ = 8 * length s in
    subst (Parts s) (give_ok _ (bit s) these.mid end past_payload these.rest.ran).0 (record {
      alternate = header.gives.alternate;
      count = count.gives;
      last = these.gives;
      at = count.mid;
      to = these.mid;
      known = refl;
      met = these.here;
      all = ap list_of (bind_is _ _ (bit s) 0 end past_payload header.here.ran ∙ bind_is _ _ (bit s) header.mid end past_payload count.here.ran
          ∙ (kinds-run _ header.gives.alternate count.gives _ these.here).1);
    })

-- the fields of either element
object_in : (p : Programme) (known now : Known) {s : List ℕ} {way : List ℕ → List ℕ} → Met s way (fields p Object known) now
    → (e : ObjectElement) × Met s (λ l. way (0 ∷ l)) (object_element p.objects (shares p)) e × (now ≡ with_object e known)
unfolding fields
object_in p known now {s} m =
    let t = line m.meets in
    (t.gives, met t.here, sym (give_ok _ (bit s) t.mid m.end m.past t.rest.ran).0)

extended_in : (p : Programme) (known now : Known) {s : List ℕ} {way : List ℕ → List ℕ} → Met s way (fields p Extended known) now
    → (x : Extension) × Met s (λ l. way (0 ∷ l)) (extended_object_element (all_carry (scenes known.object))) x × (now ≡ with_extended x known)
unfolding fields
extended_in p known now {s} m =
    let t = line m.meets in
    (t.gives, met t.here, sym (give_ok _ (bit s) t.mid m.end m.past t.rest.ran).0)

same_some : {A : Type 0} {x : Option A} {a b : A} → x ≡ some a → x ≡ some b → a ≡ b
same_some h g = cc

pub some_of : {A : Type 0} (x : Option A) → not (there x) ≡ false → (a : A) × (x ≡ some a)
some_of none h = absurd (true≢false h)
some_of (some a) h = (a, refl)

module _ (s : List ℕ) {q : Payload} {to : ℕ} (h : parsed s ≡ ok q to) where
  object-stays : (n : ℕ) (st : State) (at : ℕ) {to : ℕ} → run (elements q.programme (parts s h).alternate n st) (bit s) at (8 * length s) past_payload ≡ ok (parts s h).last to
      → (e : ObjectElement) → st.known.object ≡ some e → q.known.object ≡ some e
  object-stays n st at r e is =
      ap (λ (known : Known). known.object) (parts s h).known
      ∙ stays Object is_object (λ known. known.object) refl is-object (λ before. refl) other-object q.programme (parts s h).alternate n st s at _ _ r e is

  -- the object element of an accepted payload, where its path leads
  pub object-met : (e : ObjectElement) → q.known.object ≡ some e → Met s (λ l. object_path s ++ l) (object_element q.programme.objects (shares q.programme)) e
  object-met e is =
      let x = parts s h in
      let f = finds Object is_object (λ known. known.object) refl is-object (λ before. refl) other-object q.programme x.alternate x.count _ x.met refl
      (ap (λ (known : Known). there known.object) (sym x.known) ∙ ap there is) in
      let t = object_in q.programme f.known f.now.known f.here in
      let same = same_some (object-stays f.others f.now f.at f.later t.0 (ap (λ (known : Known). known.object) t.2)) is in
      rw x.all (subst (Met s _ _) same t.1)

  -- the extended one, beside the scenes of the object element
  pub extended-met : (x : Extension) → q.known.extended ≡ some x → Met s (λ l. extended_path s ++ l) (extended_object_element (all_carry (scenes q.known.object))) x
  extended-met y is =
      let x = parts s h in
      let f = finds Extended is_extended (λ known. known.extended) refl is-extended (λ before. refl) other-extended q.programme x.alternate x.count _ x.met refl
      (ap (λ (known : Known). there known.extended) (sym x.known) ∙ ap there is) in
      let t = extended_in q.programme f.known f.now.known f.here in
      let o = some_of f.known.object f.timely in
      let same : f.known.object ≡ q.known.object =
      o.1 ∙ sym (object-stays f.others f.now f.at f.later o.0 (ap (λ (known : Known). known.object) t.2 ∙ o.1)) in
      let stays' = stays Extended is_extended (λ known. known.extended) refl is-extended (λ before. refl) other-extended q.programme x.alternate f.others f.now s f.at _ _ in
      let gives = same_some (ap (λ (known : Known). known.extended) x.known ∙ stays' f.later t.0 (ap (λ (known : Known). known.extended) t.2)) is in
      rw x.all (rw same at (subst (Met s _ _) gives t.1))
