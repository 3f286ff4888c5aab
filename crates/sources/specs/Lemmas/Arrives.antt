-- The lines of each clause of a block and of the entries of the extended element, and where reading comes to each field.
use Rattle.std.specs.Prelude.{◌≡◌, Bool, true, false, not, List, [], ◌∷◌, ℕ, zero, suc, ◌+◌, ◌-◌, ◌^◌, ◌<◌, eqb}
use Rattle.std.proofs.Math.Path.{refl, subst}
use Rattle.std.proofs.Common.{sym, ap, ◌∙◌, arith}
use Rattle.std.proofs.lemmas.Bool.{false≢true}
use borrow.Author.Tests.{eqb-true}
use Rattle.bits.specs.Language.{ok, pick, both, Bits, slice, number, give, run}
use Rattle.oamd.specs.declared.Status.{Status}
use Rattle.oamd.specs.declared.Status.TheVariants.{Default, Full, Reuse, Mixed}
use Rattle.oamd.specs.declared.Position.{Position}
use Rattle.oamd.specs.declared.Position.TheVariants.{Absolute, Moved}
use Rattle.oamd.specs.declared.Basic.{Basic}
use Rattle.oamd.specs.declared.Distance.{Distance}
use Rattle.oamd.specs.declared.Zone.{Zone}
use Rattle.oamd.specs.declared.Extent.{Extent}
use Rattle.oamd.specs.declared.Screen.{Screen}
use Rattle.oamd.specs.declared.Render.{Render}
use Rattle.oamd.specs.declared.Block.{Block}
use Rattle.oamd.specs.declared.Divergence.{Divergence}
use Rattle.oamd.specs.declared.Precise.{Precise}
use Rattle.oamd.specs.Programme.{set?, clear?, dynamic_class}
use Rattle.oamd.specs.Block.{status_idx, parts_of, object_basic_info, nowhere, differences, coordinates, position, distance, zone, extent, screen, object_render_info}
use Rattle.oamd.specs.Block.{additional_table_data, object_info_block, has_gain, has_priority, has_position, has_zone, has_size, has_screen, sends}
use Rattle.oamd.specs.Reserved.{ZoneConstraintsIdx, ObjectSizeIdx, ObjectDivMode, ObjectDivCode, is_reserved}
use Rattle.oamd.specs.Extended.{obj_div_block, ext_prec_pos_block, has_x, has_y, has_z}
use Rattle.sources.specs.declared.Field.{Field}
use Rattle.sources.specs.declared.Field.TheVariants.{NotActive, GainIdx, GainBits, DefaultPriority, PriorityBits, DiffX, DiffY, DiffZ, PosX, PosY, PosZ}
use Rattle.sources.specs.declared.Field.TheVariants.{DistanceSpecified, AtInfinity, DistanceIdx, ZoneIdx, Elevation, SizeIdx, SizeBits, Width, Depth, Height}
use Rattle.sources.specs.declared.Field.TheVariants.{ScreenRef, ScreenFactor, DepthIdx, Snap, ObjectDivergence, DivMode, DivTable, DivCode, Presence}
use Rattle.sources.specs.declared.Field.TheVariants.{PreciseX, PreciseY, PreciseZ}
use Rattle.sources.specs.Places.{arrival}
use Rattle.sources.specs.Sources.{info_block, div_block, prec_block, line_of}
use Rattle.sources.specs.Offsets.{Lines, no_more, carry, ◌⊲◌, span, offset_at, in_row, status_lines, is_mixed, basic_lines, coordinate_lines, position_lines, distance_lines}
use Rattle.sources.specs.Offsets.{zone_lines, extent_lines, screen_lines, render_lines, Unheld, unsaid, block_lines, divergence_lines, precise_lines}
use Rattle.sources.specs.Offsets.{offset_in, offset_in_divergence, offset_in_precise}
use Rattle.sources.specs.Lemmas.Lines.{Stand, bare, offset-bare, Laid, Lays, no_field, no-clause, absent, l-give, l-bits, l-skip, l_if, l-bind, l-unless, l-pick}

-- ---- object_info_block, clause by clause: whatever is read, Q holds of its lines

l-status : (none begins : Bool) (Q : Lines → Status → Type 0) → ((n : ℕ) (s : Status) → Q (status_lines none begins n) s) → Lays (status_idx none begins) Q
unfolding status_idx
l-status true begins Q h = absent Default _ Q (no-clause _ (no_field 2 0)) (h 0 Default)
l-status false true Q h = absent Full _ Q (no-clause _ (no_field 2 0)) (h 0 Full)
l-status false false Q h = l-bind _ _ _ (l-bits 2 _ λ n l. l-give _ _ (h n _))

-- in a full group the flags of all parts are taken as set
abbrev pub AllParts : Status → ℕ → ℕ → Type 0
AllParts Default all parts = Unit {0}
AllParts Full all parts = parts ≡ all
AllParts Reuse all parts = Unit {0}
AllParts Mixed all parts = Unit {0}

l-parts : (all w : ℕ) (status : Status) (Q : Lines → ℕ → Type 0) → ((v : ℕ) → AllParts status all v → Q (carry (is_mixed status) w v) v) → Lays (parts_of all w status) Q
l-parts all w Default Q h = absent 0 _ Q (no_field w 0) (h 0 tt)
l-parts all w Full Q h = absent all _ Q (no_field w all) (h all refl)
l-parts all w Reuse Q h = absent 0 _ Q (no_field w 0) (h 0 tt)
l-parts all w Mixed Q h = l-bits w Q (λ v l. h v tt)

-- a flag, or 0 in its place
flag_small : (t : Bool) (v : ℕ) → (t ≡ true → v < 2 ^ 1) → (t ≡ false → 0 ≡ v) → v < 2
flag_small true v l z = l refl
flag_small false v l z = let e = z refl in omega arith

-- what is known of the groups, as they are read
pub record OfBasic (x : Basic) : Type 0 where
  pub full : AllParts x.status 3 x.parts
  pub bydefault : x.priority.bydefault < 2

pub record OfRender (n : Render) : Type 0 where
  pub full : AllParts n.status 15 n.parts
  pub infinite : n.distance.infinite < 2

l-basic : (status : Status) (Q : Lines → Basic → Type 0) → ((x : Basic) → OfBasic x → Q (in_row (basic_lines x)) x) → Lays (object_basic_info status) Q
unfolding object_basic_info basic_lines
l-basic status Q h =
    l-bind _ _ _ (l-parts 3 2 status _ λ parts all.
    l-bind _ _ _ (l_if (has_gain parts) 2 _ λ index l z.
    l-bind _ _ _ (l_if (eqb index 2) 6 _ λ bits l z.
    l-bind _ _ _ (l_if (has_priority parts) 1 _ λ bydefault few none.
    l-bind _ _ _ (l_if (both (has_priority parts) (clear? bydefault)) 5 _ λ priority l z.
    l-give _ _ (h _ (record { full = all; bydefault = flag_small (has_priority parts) bydefault few none })))))))

l-coordinates : (on moved : Bool) (Q : Lines → Position → Type 0) → ((p : Position) → Q (in_row (pick on (coordinate_lines p) [])) p)
    → Lays (pick on (pick moved differences coordinates) (give nowhere)) Q
unfolding differences coordinates
l-coordinates true true Q h =
    l-bind _ _ _ (l-bits 3 _ λ x l. l-bind _ _ _ (l-bits 3 _ λ y l. l-bind _ _ _ (l-bits 3 _ λ z l. l-give _ _ (h (Moved x y z)))))
l-coordinates true false Q h =
    l-bind _ _ _ (l-bits 6 _ λ x l.
    l-bind _ _ _ (l-bits 6 _ λ y l.
    l-bind _ _ _ (l-bits 1 _ λ sign l.
    l-bind _ _ _ (l-bits 4 _ λ z l.
    l-give _ _ (h (Absolute x y sign z))))))
l-coordinates false moved Q h = l-give nowhere Q (h nowhere)

l-position : (on begins : Bool) (Q : Lines → Position → Type 0) → ((moved : ℕ) (p : Position) → Q (in_row (position_lines on begins moved p)) p)
    → Lays (position on begins) Q
unfolding position position_lines
l-position on begins Q h = l-bind _ _ _ (l_if (both on (not begins)) 1 _ λ moved l z. l-coordinates on (set? moved) _ (h moved))

l-distance : (on : Bool) (Q : Lines → Distance → Type 0) → ((d : Distance) → d.infinite < 2 → Q (in_row (distance_lines on d)) d) → Lays (distance on) Q
unfolding distance distance_lines
l-distance on Q h =
    l-bind _ _ _ (l_if on 1 _ λ given l z.
    l-bind _ _ _ (l_if (set? given) 1 _ λ infinite few none.
    l-bind _ _ _ (l_if (both (set? given) (clear? infinite)) 4 _ λ index l z.
    l-give _ _ (h _ (flag_small (set? given) infinite few none)))))

l-zone : (on : Bool) (Q : Lines → Zone → Type 0) → ((z : Zone) → Q (in_row (zone_lines on z)) z) → Lays (zone on) Q
unfolding zone zone_lines
l-zone on Q h = l-bind _ _ _ (l-unless on 5 3 (is_reserved ZoneConstraintsIdx) _ λ index l z. l-bind _ _ _ (l_if on 1 _ λ elevation l z. l-give _ _ (h _)))

l-extent : (on : Bool) (Q : Lines → Extent → Type 0) → ((x : Extent) → Q (in_row (extent_lines on x)) x) → Lays (extent on) Q
unfolding extent extent_lines
l-extent on Q h =
    l-bind _ _ _ (l-unless on 5 2 (is_reserved ObjectSizeIdx) _ λ index l z.
    l-bind _ _ _ (l_if (eqb index 1) 5 _ λ all l z.
    l-bind _ _ _ (l_if (eqb index 2) 5 _ λ width l z.
    l-bind _ _ _ (l_if (eqb index 2) 5 _ λ depth l z.
    l-bind _ _ _ (l_if (eqb index 2) 5 _ λ height l z.
    l-give _ _ (h _))))))

l-screen : (on : Bool) (Q : Lines → Screen → Type 0) → ((s : Screen) → Q (in_row (screen_lines on s)) s) → Lays (screen on) Q
unfolding screen screen_lines
l-screen on Q h =
    l-bind _ _ _ (l_if on 1 _ λ used l z. l-bind _ _ _ (l_if (set? used) 3 _ λ factor l z. l-bind _ _ _ (l_if (set? used) 2 _ λ depth l z. l-give _ _ (h _))))

l-render : (status : Status) (begins : Bool) (Q : Lines → Render → Type 0) → ((moved : ℕ) (n : Render) → OfRender n → Q (in_row (render_lines begins moved n)) n)
    → Lays (object_render_info status begins) Q
unfolding object_render_info render_lines
l-render status begins Q h =
    l-bind _ _ _ (l-parts 15 4 status _ λ parts all.
    l-bind _ _ _ (l-position (has_position parts) begins _ λ moved position.
    l-bind _ _ _ (l-distance (has_position parts) _ λ distance few.
    l-bind _ _ _ (l-zone (has_zone parts) _ λ zone.
    l-bind _ _ _ (l-extent (has_size parts) _ λ extent.
    l-bind _ _ _ (l-screen (has_screen parts) _ λ screen.
    l-bind _ _ _ (l_if (sends status) 1 _ λ snap l z.
    l-give _ _ (h moved _ (record { full = all; infinite = few })))))))))

l-additional : (Q : Lines → ℕ → Type 0) → ((l : Lines) (v : ℕ) → Q l v) → Lays additional_table_data Q
unfolding additional_table_data
l-additional Q h =
    l-bind _ _ _ (l-bits 1 _ λ exists l.
    l-bind _ _ _ (l_if (set? exists) 4 _ λ size l z.
    l-pick (set? exists) _ _ _ (λ q. l-skip _ _ λ x. h _ _) (λ q. l-give _ _ (h _ _))))

-- a flag by its opposite
opposite : (v : ℕ) → v < 2 ^ 1 → (1 - (1 - v) ≡ v) × (eqb (1 - v) 0 ≡ set? v)
opposite zero h = (refl, refl)
opposite (suc zero) h = (refl, refl)
opposite (suc (suc v)) h = absurd (omega arith)

-- what was read beside a coded block, and what is known of it
pub record Carried (b : Block) : Type 0 where
  pub unheld : Unheld
  pub basic : OfBasic b.basic
  pub render : OfRender b.render

block-lays : (class blk : ℕ) → Lays (object_info_block class blk) (λ l b. (x : Carried b) × (l ≡ block_lines (eqb blk 0) b x.unheld))
unfolding object_info_block block_lines
block-lays class blk =
    l-bind _ _ _ (l-bits 1 _ λ idle l.
    l-bind _ _ _ (l-status (set? idle) (eqb blk 0) _ λ n s.
    l-bind _ _ _ (l-basic s _ λ basic of-basic.
    l-bind _ _ _ (l-status (pick (set? idle) true (not (eqb class dynamic_class))) (eqb blk 0) _ λ n' s'.
    l-bind _ _ _ (l-render s' (eqb blk 0) _ λ moved render of-render.
    l-bind _ _ _ (l-additional _ λ additional v.
    l-give _ _ (
      record { unheld = record { basic = n; render = n'; moved = moved; additional = additional ⊲ no_more }; basic = of-basic; render = of-render },
      let o = opposite idle l in rw (o.0, o.1),
    )))))))

-- ---- obj_div_block and ext_prec_pos_block

-- a table is sent in mode 0 and a code in mode 2, so the number that is kept is the one that was sent
table_kept : (t : Bool) (mode table code : ℕ) → (eqb mode 2 ≡ false → 0 ≡ code) → both t (eqb mode 0) ≡ true → table ≡ table + code
table_kept true mode table code z q = let c = z (rw (eqb-true mode 0 q)) in omega arith
table_kept false mode table code z q = absurd (false≢true q)

code-kept : (t : Bool) (mode table code : ℕ) → (both t (eqb mode 0) ≡ false → 0 ≡ table) → eqb mode 2 ≡ true → code ≡ table + code
code-kept t mode table code z q = let c = z (none t) in omega arith
  where
    none : (t : Bool) → both t (eqb mode 0) ≡ false
    none true = rw (eqb-true mode 2 q)
    none false = refl

-- the table and the code that were read for an entry
pub record Diverges (d : Divergence) : Type 0 where
  pub table : ℕ
  pub code : ℕ
  pub by-table : both (set? d.used) (eqb d.mode 0) ≡ true → table ≡ d.value
  pub by_code : eqb d.mode 2 ≡ true → code ≡ d.value

divergence-lays : Lays (obj_div_block true) (λ l d. (x : Diverges d) × (l ≡ in_row (divergence_lines d x.table x.code)))
unfolding obj_div_block divergence_lines
divergence-lays =
    l-bind _ _ _ (l_if true 1 _ λ used l z.
    l-bind _ _ _ (l-unless (set? used) 5 2 (is_reserved ObjectDivMode) _ λ mode l z.
    l-bind _ _ _ (l_if (both (set? used) (eqb mode 0)) 2 _ λ table l zt.
    l-bind _ _ _ (l-unless (eqb mode 2) 5 6 (is_reserved ObjectDivCode) _ λ code l zc.
    l-give _ _ (
      record { table = table; code = code; by-table = table_kept (set? used) mode table code zc; by_code = code-kept (set? used) mode table code zt },
      refl,
    )))))

-- the lines of an entry by b_ext_prec_pos
abbrev precise_by : ℕ → Precise → List Lines
precise_by on p =
    carry true 1 on
    ∷ carry (set? on) 3 p.presence
    ∷ carry (has_x p.presence) 2 p.x
    ∷ carry (has_y p.presence) 2 p.y
    ∷ carry (has_z p.presence) 2 p.z
    ∷ []

precise-lays : Lays (ext_prec_pos_block true) (λ l p. (on : ℕ) × (l ≡ in_row (precise_by on p)))
unfolding ext_prec_pos_block
precise-lays =
    l-bind _ _ _ (l_if true 1 _ λ on l z.
    l-bind _ _ _ (l_if (set? on) 3 _ λ presence l z.
    l-bind _ _ _ (l_if (has_x presence) 2 _ λ x l z.
    l-bind _ _ _ (l_if (has_y presence) 2 _ λ y l z.
    l-bind _ _ _ (l_if (has_z presence) 2 _ λ z l' z'.
    l-give _ _ (on, refl))))))

-- ---- what an accepted clause has read

module _ (b : Bits) (bin : (i : ℕ) → b i < 2) (at e o : ℕ) where
  pub block_read : (class blk : ℕ) {block : Block} {to : ℕ} → run (object_info_block class blk) b at e o ≡ ok block to
      → (x : Carried block) × Laid (object_info_block class blk) b at e o to (block_lines (eqb blk 0) block x.unheld)
  unfolding Lays
  block_read class blk {block} {to} h =
      let x = block-lays class blk b bin at e o block to h in
      (x.2.0, subst (Laid (object_info_block class blk) b at e o to) x.2.1 x.1)

  pub divergence-read : {d : Divergence} {to : ℕ} → run (obj_div_block true) b at e o ≡ ok d to
      → (x : Diverges d) × Laid (obj_div_block true) b at e o to (in_row (divergence_lines d x.table x.code))
  unfolding Lays
  divergence-read {d} {to} h =
      let x = divergence-lays b bin at e o d to h in
      (x.2.0, subst (Laid (obj_div_block true) b at e o to) x.2.1 x.1)

  -- where b_ext_prec_pos is set
  pub precise-read : {p : Precise} {to : ℕ} → run (ext_prec_pos_block true) b at e o ≡ ok p to → set? (b at) ≡ true
      → Laid (ext_prec_pos_block true) b at e o to (in_row (precise_lines p))
  unfolding Lays Stand slice number precise_lines
  precise-read {p} {to} h q =
      let x = precise-lays b bin at e o p to h in
      let laid = subst (Laid (ext_prec_pos_block true) b at e o to) x.2.1 x.1 in
      let on = laid.stands.0 refl in
      let one : x.2.0 ≡ 1 = omega (arith, eqb-true (b at) 1 q) in
      subst (λ (n : ℕ). Laid (ext_prec_pos_block true) b at e o to (in_row (precise_by n p))) one laid

-- ---- where reading comes to a field

-- what is not held takes the same bits, whatever it is
block_same : (f : Field) (begins : Bool) (b : Block) (u : Unheld)
    → offset_at (line_of f).path (block_lines begins b u) ≡ offset_at (line_of f).path (block_lines begins b unsaid)
unfolding offset_at block_lines span basic_lines render_lines position_lines
block_same NotActive begins b u = refl
block_same GainIdx begins b u = refl
block_same GainBits begins b u = refl
block_same DefaultPriority begins b u = refl
block_same PriorityBits begins b u = refl
block_same DiffX begins b u = refl
block_same DiffY begins b u = refl
block_same DiffZ begins b u = refl
block_same PosX begins b u = refl
block_same PosY begins b u = refl
block_same PosZ begins b u = refl
block_same DistanceSpecified begins b u = refl
block_same AtInfinity begins b u = refl
block_same DistanceIdx begins b u = refl
block_same ZoneIdx begins b u = refl
block_same Elevation begins b u = refl
block_same SizeIdx begins b u = refl
block_same SizeBits begins b u = refl
block_same Width begins b u = refl
block_same Depth begins b u = refl
block_same Height begins b u = refl
block_same ScreenRef begins b u = refl
block_same ScreenFactor begins b u = refl
block_same DepthIdx begins b u = refl
block_same Snap begins b u = refl
block_same ObjectDivergence begins b u = refl
block_same DivMode begins b u = refl
block_same DivTable begins b u = refl
block_same DivCode begins b u = refl
block_same Presence begins b u = refl
block_same PreciseX begins b u = refl
block_same PreciseY begins b u = refl
block_same PreciseZ begins b u = refl

divergence_same : (path : List ℕ) (d : Divergence) (table code : ℕ) → offset_at path (in_row (divergence_lines d table code)) ≡ offset_at path (in_row (divergence_lines d 0 0))
unfolding bare divergence_lines
divergence_same path d table code = sym (offset-bare path (in_row (divergence_lines d table code))) ∙ offset-bare path (in_row (divergence_lines d 0 0))

module _ (b : Bits) (bin : (i : ℕ) → b i < 2) (at e o : ℕ) (f : Field) where
  -- in block blk of an object of a class
  pub block-arrives : (class blk : ℕ) {block : Block} {to : ℕ} → run (object_info_block class blk) b at e o ≡ ok block to → (line_of f).clause ≡ info_block
      → arrival (line_of f).path (object_info_block class blk) b at e o ≡ at + offset_in f (eqb blk 0) block
  unfolding offset_in
  block-arrives class blk {block} h c =
      let x = block_read b bin at e o class blk h in
      x.1.comes (line_of f).path ∙ rw c (ap (λ (n : ℕ). at + n) (block_same f (eqb blk 0) block x.0.unheld))

  -- of a record that may carry divergence
  pub divergence-arrives : {d : Divergence} {to : ℕ} → run (obj_div_block true) b at e o ≡ ok d to → (line_of f).clause ≡ div_block
      → arrival (line_of f).path (obj_div_block true) b at e o ≡ at + offset_in_divergence f d
  unfolding offset_in_divergence
  divergence-arrives {d} h c =
      let x = divergence-read b bin at e o h in
      x.1.comes (line_of f).path ∙ rw c (ap (λ (n : ℕ). at + n) (divergence_same (line_of f).path d x.0.table x.0.code))

  -- of a record whose b_ext_prec_pos is set
  pub precise-arrives : {p : Precise} {to : ℕ} → run (ext_prec_pos_block true) b at e o ≡ ok p to → set? (b at) ≡ true → (line_of f).clause ≡ prec_block
      → arrival (line_of f).path (ext_prec_pos_block true) b at e o ≡ at + offset_in_precise f p
  unfolding offset_in_precise
  precise-arrives h q c = (precise-read b bin at e o h q).comes (line_of f).path ∙ rw c
