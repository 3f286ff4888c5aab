-- No refusal of an element lies before the first bit of its id: a line for each clause. The refusals of a clause lie no further back than its own first bit, so than any n bits before
-- it; those of 6 and 7 lie at the first bit of the id, as far back as the frame is long.
use Rattle.std.specs.Prelude.{◌≡◌, Bool, true, false, List, eqb, length}
use Prim.Native.Nat.{ℕ, zero, suc, ◌+◌, ◌*◌, ◌≤◌}
use Rattle.std.proofs.Common.{arith}
use Rattle.bits.specs.declared.Size.{Size}
use Rattle.bits.specs.Language.{pick, P, bits_if}
use Rattle.bits.specs.Moves.{Backs, backing, backs-give, backs-field, backs-within, backs-bind, backs_more, backs-pick, backs-pass}
use Rattle.bits.specs.Size.{size_from}
use Rattle.bits.specs.Spells.{s-give, s-bits, s-bind, s-then, s-pick}
use Rattle.bits.specs.Writes.{to_bits, Spells}
use Rattle.oamd.specs.declared.Kind.{Kind}
use Rattle.oamd.specs.declared.Kind.TheVariants.{Unknown, Object, Trim, Extended}
use Rattle.oamd.specs.declared.Programme.{Programme}
use Rattle.oamd.specs.declared.Shares.{Shares}
use Rattle.oamd.specs.declared.Status.{Status}
use Rattle.oamd.specs.declared.Status.TheVariants.{Default, Full, Reuse, Mixed}
use Rattle.oamd.specs.Programme.{set?}
use Rattle.oamd.specs.Timing.{sample_offset, block_update_info, md_update_info}
use Rattle.oamd.specs.Block.{status_idx, parts_of, object_basic_info, differences, coordinates, position, distance, zone, extent, screen, object_render_info, additional_table_data, object_info_block}
use Rattle.oamd.specs.ObjectElement.{object_data, object_element}
use Rattle.oamd.specs.Extended.{obj_div_block, ext_prec_pos_block, extended_object_element}
use Rattle.oamd.specs.Trim.{trim_config, trim_element}
use Rattle.oamd.specs.Element.{head_length, back_to_id, framed, Known, fields, State, pass_over, read_known, oa_element, oa_element_md}
use Rattle.demands.specs.Lemmas.Elements.{by_kind}

-- ---- the fields of known elements, and a size

module _ (n : ℕ) where
  offset-backs : Backs n sample_offset
  unfolding sample_offset
  offset-backs = search backing depth 12

  update-backs : Backs n block_update_info
  unfolding block_update_info
  update-backs = search backing depth 12

  timing-backs : Backs n md_update_info
  unfolding md_update_info
  timing-backs = search (backing, offset-backs, update-backs) depth 12

  status-backs : (none first : Bool) → Backs n (status_idx none first)
  unfolding status_idx
  status-backs none first = search backing depth 12

  parts_back : (all w : ℕ) (status : Status) → Backs n (parts_of all w status)
  parts_back all w Default = backs-give n _
  parts_back all w Full = backs-give n _
  parts_back all w Reuse = backs-give n _
  parts_back all w Mixed = backs-field n w _

  basic-backs : (status : Status) → Backs n (object_basic_info status)
  unfolding object_basic_info
  basic-backs status = search (backing, parts_back) depth 12

  differences_back : Backs n differences
  unfolding differences
  differences_back = search backing depth 12

  coordinates_back : Backs n coordinates
  unfolding coordinates
  coordinates_back = search backing depth 12

  position-backs : (on first : Bool) → Backs n (position on first)
  unfolding position
  position-backs on first = search (backing, differences_back, coordinates_back) depth 12

  distance-backs : (on : Bool) → Backs n (distance on)
  unfolding distance
  distance-backs on = search backing depth 12

  zone-backs : (on : Bool) → Backs n (zone on)
  unfolding zone
  zone-backs on = search backing depth 12

  extent-backs : (on : Bool) → Backs n (extent on)
  unfolding extent
  extent-backs on = search backing depth 12

  screen-backs : (on : Bool) → Backs n (screen on)
  unfolding screen
  screen-backs on = search backing depth 12

  render-backs : (status : Status) (first : Bool) → Backs n (object_render_info status first)
  unfolding object_render_info
  render-backs status first = search (backing, parts_back, position-backs, distance-backs, zone-backs, extent-backs, screen-backs) depth 12

  additional-backs : Backs n additional_table_data
  unfolding additional_table_data
  additional-backs = search backing depth 12

  block-backs : (class blk : ℕ) → Backs n (object_info_block class blk)
  unfolding object_info_block
  block-backs class blk = search (backing, status-backs, basic-backs, render-backs, additional-backs) depth 12

  object-backs : (blocks class : ℕ) → Backs n (object_data blocks class)
  unfolding object_data
  object-backs blocks class = search (backing, block-backs) depth 12

  objects_back : (objects : ℕ) (shares : Shares) → Backs n (object_element objects shares)
  unfolding object_element
  objects_back objects shares = search (backing, timing-backs, object-backs) depth 12

  config-backs : Backs n trim_config
  unfolding trim_config
  config-backs = search backing depth 12

  trim-backs : (objects : ℕ) → Backs n (trim_element objects)
  unfolding trim_element
  trim-backs objects = search (backing, config-backs) depth 12

  divergence-backs : (carries : Bool) → Backs n (obj_div_block carries)
  unfolding obj_div_block
  divergence-backs carries = search backing depth 12

  precise-backs : (carries : Bool) → Backs n (ext_prec_pos_block carries)
  unfolding ext_prec_pos_block
  precise-backs carries = search backing depth 12

  extended-backs : (carries : List Bool) → Backs n (extended_object_element carries)
  unfolding extended_object_element
  extended-backs carries = search (backing, divergence-backs, precise-backs) depth 12

  fields_back : (p : Programme) (k : Kind) (known : Known) → Backs n (fields p k known)
  unfolding fields
  fields_back p Unknown known = backs-give n _
  fields_back p Object known = search (backing, objects_back)
  fields_back p Trim known = search (backing, trim-backs)
  fields_back p Extended known = search (backing, extended-backs)

  size-backs : (k value g : ℕ) → Backs n (size_from k value g)
  unfolding size_from
  size-backs zero value g = search backing depth 12
  size-backs (suc k) value g =
      let ih = size-backs k in
      search (backing, ih) depth 12

-- ---- what a frame takes before the fields

-- a size takes 5 bits for each of its groups
size_long : (k value g : ℕ) → Spells (size_from k value g) (λ l z. length l + 5 * g ≡ 5 * z.groups)
unfolding size_from to_bits
size_long zero value g =
    s-bind _ _ _ (s-bits 4 _ λ read a.
    s-bind _ _ _ (s-bits 1 _ λ more b.
    s-give _ _ (omega arith)))
size_long (suc k) value g =
    s-bind _ _ _ (s-bits 4 _ λ read a.
    s-bind _ _ _ (s-bits 1 _ λ more b.
    s-pick (eqb more 0) _ _ _ (λ q. s-give _ _ (omega arith)) (λ q. s-then _ _ _ (size_long k _ (suc g)) λ l z h. omega arith)))

-- the alternate id, where there is one, and the bit of the discard flag
alternate_long : (alternate : ℕ) → Spells (bits_if (set? alternate) 4) (λ l a. length l + 1 ≡ head_length alternate)
unfolding to_bits
alternate_long alternate = go (set? alternate)
  where
    go : (t : Bool) → Spells (bits_if t 4) (λ l a. length l + 1 ≡ pick t 5 1)
    go true = s-bits 4 _ λ v l. omega arith
    go false = s-give _ _ (omega arith)

-- ---- elements

-- behind the frame a reader may go back to the first bit of the id
framed-backs : {A : Type 0} (alternate : ℕ) (f : Kind → Size → P A) → ((k : Kind) (z : Size) → Backs (back_to_id alternate z) (f k z)) → Backs 0 (framed alternate f)
unfolding framed to_bits
framed-backs alternate f h =
    backs-bind _ _ _ (backs-field _ 4 _) (s-bits 4 _ λ id a.
    backs-bind _ _ _ (size-backs _ 4 0 0) (s-then _ _ _ (size_long 4 0 0) λ l z i.
    backs-within _ _ _ _ (omega arith) (
    backs-bind _ _ _ (backs-pick _ (set? alternate) _ _ (backs-field _ 4 _) (backs-give _ 0)) (s-then _ _ _ (alternate_long alternate) λ m other j.
    backs-bind _ _ _ (backs-field _ 1 _) (s-bits 1 _ λ discard d.
    backs_more _ _ _ (h _ z) (omega arith))))))

-- 6 and 7 lie there
known-backs : (p : Programme) (back : ℕ) (st : State) (k : Kind) → Backs back (read_known p back st k)
unfolding read_known
known-backs p back st k =
    let here : back ≤ back = omega arith in
    search (backing, backs-pass, here, fields_back) depth 12

inside-backs : (p : Programme) (back : ℕ) (st : State) (k : Kind) → Backs back (oa_element p back st k)
unfolding pass_over
inside-backs p back st = by_kind p back st (λ k x. Backs back x) (backs-give back _) (λ k known. known-backs p back st k)

pub backs-md : (p : Programme) (alternate : ℕ) (st : State) → Backs 0 (oa_element_md p alternate st)
unfolding oa_element_md
backs-md p alternate st = framed-backs alternate _ (λ k z. inside-backs p (back_to_id alternate z) st k)
