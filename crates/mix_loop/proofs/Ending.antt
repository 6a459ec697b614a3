-- What a mixing of ports tells of their inlets.
use Rattle.std.proofs.Common.{◌≡◌, ◌≤◌, ℕ, zero, suc, inl, inr, Some, None, Option, List, [], ◌∷◌, length, map, refl, ap, sym, subst, ◌∙◌, arith}
use Rattle.std.specs.Prelude.{◌&&◌, filter, nat_le, slice_get}
use Rattle.std.proofs.lemmas.List.{length-map}
use Rattle.file_spec.specs.Stays.{is_before_end}
use Rattle.file_spec.specs.declared.conference_lines.LegLine.{LegLine}
use Rattle.mixer_spec.specs.Setups.{Setup}
use Rattle.mixer_spec.specs.Table.{Call}
use Rattle.mix_loop.specs.declared.ports.Port.{Port}
use Rattle.mix_loop.specs.declared.turns.MixEnd.{MixEnd}
use Rattle.mix_loop.specs.Items.{Gave, nothing, is_open}
use Rattle.mix_loop.specs.Mixing.{GaveAll, MixedAll, NoneGave, StayAs, part_of}
use Rattle.mix_loop.specs.Ports.{AreNew, StaysAs, counted, of_leg}
use Rattle.mix_loop.specs.Turns.{AllFresh, AreSound, MixedAs, TellsMixing}
use Rattle.mix_loop.proofs.Lists.{lt_or_ge}
use Rattle.mix_loop.proofs.Opening.{inlet_in}
use Rattle.wire_spec.proofs.Plain.{get_map as map_get, map_from, funext}
use Rattle.stream_spec.proofs.Plain.{get_at as some_at}

-- ---- elements of lists
none_at : {X : Type 0} (xs : List X) (j : ℕ) → length xs ≤ j → slice_get xs j ≡ None
none_at [] j high = refl
none_at (x ∷ xs) zero high = absurd (omega arith)
none_at (x ∷ xs) (suc j) high = none_at xs j (omega arith)

-- ---- before
module _ {I F : Type 0} where
  -- as many ports as inlets
  pub ports_many : (inlets : List I) (legs : List LegLine) (ps : List (Port I F)) → AreNew inlets legs ps → length ps ≡ length inlets
  ports_many inlets legs ps new = sym (length-map ps inlet_in) ∙ ap (λ l. length l) new.are

  pub all_sound : (good : I → Type 0) (inlets : List I) (legs : List LegLine) (ps : List (Port I F)) → AreNew inlets legs ps → ((j : ℕ) (i : I) → slice_get inlets j ≡ Some i → good i) → AreSound good ps
  all_sound good inlets legs ps new each j p e =
      let n = (new.each j p e).2 in
      let here : slice_get inlets j ≡ Some p.inlet = ap (λ l. slice_get l j) (sym new.are) ∙ map_get inlet_in ps j p e in
      record { asked = λ o. each j p.inlet here; hand = λ f. absurd (cc (sym n.empty ∙ f)) }

  pub all_fresh : (stands : I → I → Gave F → Type 0) (s : Setup) (inlets : List I) (legs : List LegLine) (ps : List (Port I F)) → AreNew inlets legs ps → NoneGave stands inlets → StayAs s legs → AllFresh stands s inlets ps
  all_fresh stands s inlets legs ps new none stay j p e =
      let r = new.each j p e in
      let here : slice_get inlets j ≡ Some p.inlet = ap (λ l. slice_get l j) (sym new.are) ∙ map_get inlet_in ps j p e in
      let line = stay j r.0 r.1 in
      record {
        first = p.inlet;
        of = here;
        gives = none j p.inlet here;
        empty = r.2.empty;
        open_still = r.2.open_still;
        away = r.2.away;
        stays = record { from = line.0 ∙ ap (λ z. z.from) (sym r.2.stays); until = line.1 ∙ ap (λ z. z.until) (sym r.2.stays) };
      }

  -- what counts at a port of the leg j is what counts of the leg j
  part_is : (s : Setup) (j : ℕ) (p : Port I F) (gave : Gave F) → StaysAs s j p → counted j p.stay gave ≡ part_of s j gave
  part_is s j p gave stays = λ ι. record { chunks = map (of_leg j) (filter (λ c. nat_le (sym stays.from ι) c.ready && is_before_end c.ready (sym stays.until ι)) gave.chunks); ended = gave.ended }

-- ---- behind
module _ {I F M T : Type 0} (stands : I → I → Gave F → Type 0) (mixes : M → Setup → List Call → Type 0) (s : Setup) (firsts : List I) (tick turns : ℕ) (answer : MixEnd F T)
    (qs : List (Port I F)) (m : M) (x : MixedAs stands mixes s firsts tick turns answer qs m) (legs : s.legs ≡ length qs) where
  -- what the inlet gave of the port with this number, if there is one
  abbrev whole_at : (j : ℕ) (o : Option (Port I F)) → slice_get qs j ≡ o → Gave F
  whole_at j None e = nothing
  whole_at j (Some p) e = (x.legs j p e).whole

  abbrev whole : ℕ → Gave F
  whole j = whole_at j (slice_get qs j) refl

  record OfLeg (j : ℕ) (p : Port I F) (w : Gave F) : Type 0 where
    gave : GaveAll stands firsts j p.inlet w
    is : x.gave j ≡ counted j p.stay w

  at_leg : (j : ℕ) (p : Port I F) → slice_get qs j ≡ Some p → OfLeg j p (whole j)
  at_leg j p e = go (slice_get qs j) refl e
    where
      go : (o : Option (Port I F)) (q : slice_get qs j ≡ o) → o ≡ Some p → OfLeg j p (whole_at j o q)
      go None q z = absurd (cc z)
      go (Some r) q z =
          let same : r ≡ p = cc z in
          let g = x.legs j r q in
          subst (λ (y : Port I F). OfLeg j y g.whole) same
          (record { gave = record { first = g.first; of = g.of; gives = g.gives; closed = ap (λ (v : Gave F). is_open v.ended) (sym g.is) ∙ g.closed }; is = g.is })

  above : (j : ℕ) → s.legs ≤ j → whole j ≡ nothing
  above j high = go (slice_get qs j) refl (none_at qs j (omega (arith, high, legs)))
    where
      go : (o : Option (Port I F)) (q : slice_get qs j ≡ o) → o ≡ None → whole_at j o q ≡ nothing
      go None q z = refl
      go (Some r) q z = absurd (cc z)

  parts_are : x.gave ≡ (λ j. part_of s j (whole j))
  parts_are = funext x.gave (λ j. part_of s j (whole j)) (λ j. elim (lt_or_ge j s.legs) [
    | inl low ↦
        let r = some_at qs j (omega (arith, low, legs)) in
        (at_leg j r.0 r.1).is ∙ part_is s j r.0 (whole j) (x.stays j r.0 r.1)
    | inr high ↦ x.above j high ∙ ap (part_of s j) (sym (above j high))
  ])

  pub all_mixed : (inlets : List I) → inlets ≡ map inlet_in qs → MixedAll stands mixes s tick turns answer firsts inlets m
  all_mixed inlets is = record {
    gave = whole;
    table = x.table;
    legs = λ j now e.
        let r = map_from inlet_in qs j now (ap (λ l. slice_get l j) (sym is) ∙ e) in
        subst (λ (i : I). GaveAll stands firsts j i (whole j)) r.2 (at_leg j r.0 r.1).gave;
    above = above;
    mixed = x.mixed;
    tells = subst (λ (g : ℕ → Gave F). TellsMixing answer s tick turns g x.table) parts_are x.tells;
  }
