-- What holds of the legs of a conference of links, whatever its file says: what each new one keeps, and no line of generations changes.
use Rattle.std.proofs.Common.{◌≡◌, ℕ, true, false, Option, Some, List, [], ◌∷◌, ◌++◌, length, refl, ap, subst, sym, ◌∙◌}
use Rattle.std.specs.Prelude.{not, nat_le, Ok, bytes_eq, is_some, ◌||◌, ◌==◌}
use Rattle.std.specs.List.{list_any}
use Rattle.std.proofs.lemmas.Bool.{not-false, or_parts}
use Rattle.rtt_base.specs.declared.text_packets.PayloadTypes.{PayloadTypes}
use Rattle.file_spec.specs.declared.kinds.ConfKind.TheVariants.{Clash, Many, Number, Twice}
use Rattle.file_spec.specs.declared.conference_lines.Form.TheVariants.{Links}
use Rattle.file_spec.specs.declared.conference_lines.LegLine.{LegLine}
use Rattle.rtt_base.specs.Steps.{◌>>=◌}
use Rattle.file_spec.specs.Steps.{unless}
use Rattle.file_spec.specs.Lines.{Line}
use Rattle.file_spec.specs.Numbers.{payload_types}
use Rattle.file_spec.specs.Conference.{Above, Conference, Entry, Generations, Leg, Mixer, Plan, Relabel, Mtu, Follows, Longs, Serves, Spacing, Stays, Tick, Turns, Wait, and_line, change_leg, clashes, conference_from, has_port, is_mixers, is_operators, leg, leg_of, most_legs, new_leg, port, shares_own, shares_path, usual_types, whole_stay, with_entry, with_follow, with_generations, with_long}
use Rattle.rtt_base.proofs.Steps.{bind_ok}
use Rattle.file_spec.proofs.Passed.{unless_ok}
use Rattle.file_spec.proofs.EachLine.{HoldsOf, leg_read, entry_holds, line_adds, lines_of, completed}

-- Behind these legs: it stays for good, its input is a port, and none above it has the same port or output.
pub record IsNewLink (above : List LegLine) (l : LegLine) : Type 0 where
  pub stays : l.stay ≡ whole_stay
  pub numbered : is_some (port l.input) ≡ true
  pub apart : list_any (λ a. shares_path Links a l) above ≡ false

abbrev Fits : List LegLine → Entry → Type 0
Fits above (Leg l) = IsNewLink above l
Fits above (Mixer m) = Unit {0}
Fits above (Generations g) = Unit {0}
Fits above (Stays s) = ⊥
Fits above (Tick n) = Unit {0}
Fits above (Spacing n) = Unit {0}
Fits above (Wait n) = Unit {0}
Fits above (Turns n) = Unit {0}
Fits above (Relabel n) = Unit {0}
Fits above (Mtu n) = Unit {0}
Fits above (Plan p) = Unit {0}
Fits above (Follows k) = Unit {0}
Fits above (Longs k) = Unit {0}
Fits above (Serves s) = Unit {0}

-- ---- legs
new_leg_is : (above : Above) (l x : LegLine) → l.stay ≡ whole_stay → is_some (port l.input) ≡ true → new_leg Links above l ≡ Ok x → IsNewLink above.legs x
new_leg_is above l x stays numbered e =
    let a = bind_ok (unless (nat_le (most_legs Links) (length above.legs)) Many l >>= unless (list_any (λ a. bytes_eq a.name l.name) above.legs) Twice) (unless (clashes Links above l) Clash) x e in
    let b = bind_ok (unless (nat_le (most_legs Links) (length above.legs)) Many l) (unless (list_any (λ a. bytes_eq a.name l.name) above.legs) Twice) a.0 a.1 in
    let u = unless_ok (clashes Links above l) Clash a.0 x a.2 in
    let same : l ≡ x = (unless_ok (nat_le (most_legs Links) (length above.legs)) Many l b.0 b.1).1 ∙ ((unless_ok (list_any (λ a. bytes_eq a.name l.name) above.legs) Twice b.0 a.0 b.2).1 ∙ u.1) in
    let first = or_parts (list_any (λ a. a.ssrc == l.ssrc) above.legs) (is_mixers above.mixer l.ssrc || (shares_own Links l || (list_any (λ a. shares_path Links a l) above.legs || is_operators above.service.operator (port l.input)))) u.0 in
    let second = or_parts (is_mixers above.mixer l.ssrc) (shares_own Links l || (list_any (λ a. shares_path Links a l) above.legs || is_operators above.service.operator (port l.input))) first.1 in
    let third = or_parts (shares_own Links l) (list_any (λ a. shares_path Links a l) above.legs || is_operators above.service.operator (port l.input)) second.1 in
    let fourth = or_parts (list_any (λ a. shares_path Links a l) above.legs) (is_operators above.service.operator (port l.input)) third.1 in
    subst (IsNewLink above.legs) same (record { stays = stays; numbered = numbered; apart = fourth.0 })

leg_of_fits : (above : Above) (n : ℕ) (name mode ssrc input output : List ℕ) (types : Option PayloadTypes) (x : LegLine) → leg_of Links above n name mode ssrc input output types ≡ Ok x → IsNewLink above.legs x
leg_of_fits above n name mode ssrc input output types x e =
    let r = leg_read Links above n name mode ssrc input output types x e in
    let u = unless_ok (not (has_port Links input)) Number input r.line.input r.comes in
    new_leg_is above r.line x r.stays (ap (λ (i : List ℕ). is_some (port i)) (sym u.1) ∙ not-false (has_port Links input) u.0) r.is

leg_fits : (above : Above) (n : ℕ) (ws : List (List ℕ)) (x : LegLine) → leg Links above n ws ≡ Ok x → IsNewLink above.legs x
leg_fits above n [] x e = absurd (cc e)
leg_fits above n (a ∷ []) x e = absurd (cc e)
leg_fits above n (a ∷ b ∷ []) x e = absurd (cc e)
leg_fits above n (a ∷ b ∷ c ∷ []) x e = absurd (cc e)
leg_fits above n (a ∷ b ∷ c ∷ d ∷ []) x e = absurd (cc e)
leg_fits above n (a ∷ b ∷ c ∷ d ∷ f ∷ []) x e = leg_of_fits above n a b c d f (Some usual_types) x e
leg_fits above n (a ∷ b ∷ c ∷ d ∷ f ∷ g ∷ []) x e = absurd (cc e)
leg_fits above n (a ∷ b ∷ c ∷ d ∷ f ∷ g ∷ h ∷ []) x e = leg_of_fits above n a b c d f (payload_types g h) x e
leg_fits above n (a ∷ b ∷ c ∷ d ∷ f ∷ g ∷ h ∷ i ∷ more) x e = absurd (cc e)

-- ---- lines
entry_fits : (above : Above) (n : ℕ) → HoldsOf (Fits above.legs) Links above n
entry_fits above n = record {
  each_leg = leg_fits above n;
  each_mixer = λ ws x e. tt;
  each_generations = λ ws x e. tt;
  each_stay = λ q. absurd (cc q);
  each_plan = λ q. absurd (cc q);
  each_tick = λ ws x e. tt;
  each_spacing = λ ws x e. tt;
  each_wait = λ ws x e. tt;
  each_turns = λ ws x e. tt;
  each_relabel = λ ws x e. tt;
  each_mtu = λ ws x e. tt;
  each_follow = λ q ws x e. tt;
  each_counts = λ ws x e. tt;
  each_long = λ ws x e. tt;
  each_service = λ q word ws x e. tt;
}

-- what is changed of a leg leaves its stay and its input
pub record Leaves (change : LegLine → LegLine) : Type 0 where
  pub stay : (l : LegLine) → (change l).stay ≡ l.stay
  pub input : (l : LegLine) → (change l).input ≡ l.input

-- ---- the whole, where none keeps it, one more keeps it, and what changes a leg so does
module _ (Fit : List LegLine → Type 0) (none : Fit []) (push : (above : List LegLine) (l : LegLine) → IsNewLink above l → Fit above → Fit (above ++ l ∷ []))
    (changed : (change : LegLine → LegLine) → Leaves change → (k : ℕ) (legs : List LegLine) → Fit legs → Fit (change_leg change k legs)) where
  more : (above : Above) (said : Entry) → Fit above.legs → Fits above.legs said → Fit (with_entry above said).legs
  more above (Leg l) f n = push above.legs l n f
  more above (Generations g) f n = changed (with_generations g.generations) (record { stay = λ l. refl; input = λ l. refl }) g.leg above.legs f
  more above (Stays s) f n = absurd n
  more above (Tick m) f n = f
  more above (Spacing m) f n = f
  more above (Wait m) f n = f
  more above (Turns m) f n = f
  more above (Relabel m) f n = f
  more above (Mtu m) f n = f
  more above (Mixer x) f n = f
  more above (Plan p) f n = f
  more above (Follows k) f n = changed with_follow (record { stay = λ l. refl; input = λ l. refl }) k above.legs f
  more above (Longs k) f n = changed with_long (record { stay = λ l. refl; input = λ l. refl }) k above.legs f
  more above (Serves s) f n = f

  line_fits : (above later : Above) (line : Line) → and_line Links above line ≡ Ok later → Fit above.legs → Fit later.legs
  line_fits above later line e f =
      let a = line_adds Links above later line e in
      subst (λ (x : Above). Fit x.legs) a.3 (more above a.1 f (entry_holds (Fits above.legs) Links above line.number (entry_fits above line.number) a.0 a.1 a.2))

  pub legs_fit : (octets : List ℕ) (c : Conference) → conference_from Links octets ≡ Ok c → Fit c.legs
  legs_fit octets c e =
      let a = lines_of (λ (x : Above). Fit x.legs) Links line_fits none octets c e in
      let d = completed a.0 a.0.mixer c a.2 in
      subst (λ (x : Conference). Fit x.legs) d.4 a.1
