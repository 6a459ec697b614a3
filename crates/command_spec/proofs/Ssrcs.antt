-- The SSRCs of a conference that a file describes have 32 bits.
use Rattle.std.proofs.Common.{◌≡◌, ℕ, zero, suc, ◌<◌, ◌^◌, Option, Some, List, [], ◌∷◌, length, refl, subst, ◌∙◌, arith}
use Rattle.std.specs.Prelude.{nat_le, Ok, bytes_eq, All}
use Rattle.std.specs.List.{list_any}
use Rattle.std.specs.Option.{ForSome, ok_or}
use Rattle.std.proofs.lemmas.List.Elements.{All-nil, All-push}
use Rattle.rtt_base.specs.declared.text_packets.PayloadTypes.{PayloadTypes}
use Rattle.file_spec.specs.declared.kinds.ConfKind.TheVariants.{Number, Many, Twice, Clash}
use Rattle.file_spec.specs.declared.conference_lines.Form.{Form}
use Rattle.file_spec.specs.declared.conference_lines.MixerLine.{MixerLine}
use Rattle.file_spec.specs.declared.conference_lines.LegLine.{LegLine}
use Rattle.rtt_base.specs.Steps.{◌>>=◌}
use Rattle.file_spec.specs.Steps.{unless}
use Rattle.file_spec.specs.Lines.{Line}
use Rattle.file_spec.specs.Numbers.{number, most_ssrc, payload_types}
use Rattle.file_spec.specs.Conference.{Above, Conference, Entry, Leg, Generations, Stays, Tick, Spacing, Wait, Turns, Relabel, Mtu, Mixer, Plan, Follows, Longs, Serves, nothing, with_entry, change_leg, with_generations, with_follow, with_long, with_stay, mixer, mixer_of, clashes, most_legs, new_leg, usual_types, leg_of, leg, and_line, conference_from}
use Rattle.rtt_base.proofs.Steps.{bind_ok}
use Rattle.file_spec.proofs.Passed.{unless_ok, ok_or_ok, number_most}
use Rattle.file_spec.proofs.EachLine.{HoldsOf, entry_holds, line_adds, lines_of, completed, leg_read, mixer_read}
use Rattle.std.proofs.lemmas.Option.{same_Some as some_same}

-- ---- what the lines so far have
record AreSsrcs (legs : List LegLine) (said : Option MixerLine) : Type 0 where
  legs_fit : All (λ l. l.ssrc < 2 ^ 32) legs
  mixer_fits : ForSome said (λ m. m.ssrc < 2 ^ 32)

abbrev Fit : Above → Type 0
Fit above = AreSsrcs above.legs above.mixer

abbrev Fits : Entry → Type 0
Fits (Leg l) = l.ssrc < 2 ^ 32
Fits (Mixer m) = m.ssrc < 2 ^ 32
Fits (Generations g) = Unit {0}
Fits (Stays s) = Unit {0}
Fits (Tick n) = Unit {0}
Fits (Spacing n) = Unit {0}
Fits (Wait n) = Unit {0}
Fits (Turns n) = Unit {0}
Fits (Relabel n) = Unit {0}
Fits (Mtu n) = Unit {0}
Fits (Plan p) = Unit {0}
Fits (Follows k) = Unit {0}
Fits (Longs k) = Unit {0}
Fits (Serves s) = Unit {0}

changed : (change : LegLine → LegLine) → ((l : LegLine) → (change l).ssrc ≡ l.ssrc) → (k : ℕ) (legs : List LegLine) → All (λ l. l.ssrc < 2 ^ 32) legs → All (λ l. l.ssrc < 2 ^ 32) (change_leg change k legs)
changed change same k [] a = a
changed change same zero (l ∷ legs) a = go
  where
    go : All (λ l. l.ssrc < 2 ^ 32) (change l ∷ legs)
    go zero d h = let s = a zero d (omega arith) in omega (arith, same l, s)
    go (suc i) d h = a (suc i) d h
changed change same (suc k) (l ∷ legs) a = go (changed change same k legs (λ i d h. a (suc i) d (omega arith)))
  where
    go : All (λ l. l.ssrc < 2 ^ 32) (change_leg change k legs) → All (λ l. l.ssrc < 2 ^ 32) (l ∷ change_leg change k legs)
    go r zero d h = a zero d (omega arith)
    go r (suc i) d h = r i d (omega arith)

more : (above : Above) (said : Entry) → Fit above → Fits said → Fit (with_entry above said)
more above (Leg l) f n = record { legs_fit = All-push (λ a. a.ssrc < 2 ^ 32) above.legs l f.legs_fit n; mixer_fits = f.mixer_fits }
more above (Generations g) f n = record { legs_fit = changed (with_generations g.generations) (λ l. refl) g.leg above.legs f.legs_fit; mixer_fits = f.mixer_fits }
more above (Stays s) f n = record { legs_fit = changed (with_stay s.stay) (λ l. refl) s.leg above.legs f.legs_fit; mixer_fits = f.mixer_fits }
more above (Tick m) f n = record { legs_fit = f.legs_fit; mixer_fits = f.mixer_fits }
more above (Spacing m) f n = record { legs_fit = f.legs_fit; mixer_fits = f.mixer_fits }
more above (Wait m) f n = record { legs_fit = f.legs_fit; mixer_fits = f.mixer_fits }
more above (Turns m) f n = record { legs_fit = f.legs_fit; mixer_fits = f.mixer_fits }
more above (Relabel m) f n = record { legs_fit = f.legs_fit; mixer_fits = f.mixer_fits }
more above (Mtu m) f n = record { legs_fit = f.legs_fit; mixer_fits = f.mixer_fits }
more above (Mixer x) f n = record { legs_fit = f.legs_fit; mixer_fits = λ m e. subst (λ (y : MixerLine). y.ssrc < 2 ^ 32) (some_same x m e) n }
more above (Plan p) f n = record { legs_fit = f.legs_fit; mixer_fits = f.mixer_fits }
more above (Follows k) f n = record { legs_fit = changed with_follow (λ l. refl) k above.legs f.legs_fit; mixer_fits = f.mixer_fits }
more above (Longs k) f n = record { legs_fit = changed with_long (λ l. refl) k above.legs f.legs_fit; mixer_fits = f.mixer_fits }
more above (Serves s) f n = record { legs_fit = f.legs_fit; mixer_fits = f.mixer_fits }

-- ---- legs and the mixer
named : (text : List ℕ) (n : ℕ) → ok_or (number most_ssrc text) Number ≡ Ok n → n < 2 ^ 32
named text n e = let m = number_most most_ssrc text n (ok_or_ok (number most_ssrc text) Number n e) in omega (arith, m)

new_same : (form : Form) (above : Above) (l x : LegLine) → new_leg form above l ≡ Ok x → l ≡ x
new_same form above l x e =
    let a = bind_ok (unless (nat_le (most_legs form) (length above.legs)) Many l >>= unless (list_any (λ a. bytes_eq a.name l.name) above.legs) Twice) (unless (clashes form above l) Clash) x e in
    let b = bind_ok (unless (nat_le (most_legs form) (length above.legs)) Many l) (unless (list_any (λ a. bytes_eq a.name l.name) above.legs) Twice) a.0 a.1 in
    (unless_ok (nat_le (most_legs form) (length above.legs)) Many l b.0 b.1).1
    ∙ ((unless_ok (list_any (λ a. bytes_eq a.name l.name) above.legs) Twice b.0 a.0 b.2).1 ∙ (unless_ok (clashes form above l) Clash a.0 x a.2).1)

leg_of_fits : (form : Form) (above : Above) (n : ℕ) (name mode ssrc input output : List ℕ) (types : Option PayloadTypes) (x : LegLine) → leg_of form above n name mode ssrc input output types ≡ Ok x → x.ssrc < 2 ^ 32
leg_of_fits form above n name mode ssrc input output types x e =
    let r = leg_read form above n name mode ssrc input output types x e in
    subst (λ (y : LegLine). y.ssrc < 2 ^ 32) (new_same form above r.line x r.is) (named ssrc r.line.ssrc r.source)

leg_fits : (form : Form) (above : Above) (n : ℕ) (ws : List (List ℕ)) (x : LegLine) → leg form above n ws ≡ Ok x → x.ssrc < 2 ^ 32
leg_fits form above n [] x e = absurd (cc e)
leg_fits form above n (a ∷ []) x e = absurd (cc e)
leg_fits form above n (a ∷ b ∷ []) x e = absurd (cc e)
leg_fits form above n (a ∷ b ∷ c ∷ []) x e = absurd (cc e)
leg_fits form above n (a ∷ b ∷ c ∷ d ∷ []) x e = absurd (cc e)
leg_fits form above n (a ∷ b ∷ c ∷ d ∷ f ∷ []) x e = leg_of_fits form above n a b c d f (Some usual_types) x e
leg_fits form above n (a ∷ b ∷ c ∷ d ∷ f ∷ g ∷ []) x e = absurd (cc e)
leg_fits form above n (a ∷ b ∷ c ∷ d ∷ f ∷ g ∷ h ∷ []) x e = leg_of_fits form above n a b c d f (payload_types g h) x e
leg_fits form above n (a ∷ b ∷ c ∷ d ∷ f ∷ g ∷ h ∷ i ∷ more) x e = absurd (cc e)

mixer_of_fits : (above : Above) (ssrc seq timestamp : List ℕ) (x : MixerLine) → mixer_of above ssrc seq timestamp ≡ Ok x → x.ssrc < 2 ^ 32
mixer_of_fits above ssrc seq timestamp x e = named ssrc x.ssrc (mixer_read above ssrc seq timestamp x e).source

mixer_fits : (above : Above) (ws : List (List ℕ)) (x : MixerLine) → mixer above ws ≡ Ok x → x.ssrc < 2 ^ 32
mixer_fits above [] x e = absurd (cc e)
mixer_fits above (a ∷ []) x e = absurd (cc e)
mixer_fits above (a ∷ b ∷ []) x e = absurd (cc e)
mixer_fits above (a ∷ b ∷ c ∷ []) x e = mixer_of_fits above a b c x e
mixer_fits above (a ∷ b ∷ c ∷ d ∷ more) x e = absurd (cc e)

-- ---- lines
entry_fits : (form : Form) (above : Above) (n : ℕ) → HoldsOf Fits form above n
entry_fits form above n = record {
  each_leg = leg_fits form above n;
  each_mixer = mixer_fits above;
  each_generations = λ ws x e. tt;
  each_stay = λ q ws x e. tt;
  each_plan = λ q word ws x e. tt;
  each_tick = λ ws x e. tt;
  each_spacing = λ ws x e. tt;
  each_wait = λ ws x e. tt;
  each_turns = λ ws x e. tt;
  each_relabel = λ ws x e. tt;
  each_mtu = λ ws x e. tt;
  each_follow = λ q ws x e. tt;
  each_counts = λ ws x e. tt;
  each_long = λ ws x e. tt;
  each_service = λ q word ws x e. tt;
}

line_fits : (form : Form) (above later : Above) (line : Line) → and_line form above line ≡ Ok later → Fit above → Fit later
line_fits form above later line e f =
    let a = line_adds form above later line e in
    subst Fit a.3 (more above a.1 f (entry_holds Fits form above line.number (entry_fits form above line.number) a.0 a.1 a.2))

-- ---- the whole
pub record HasSsrcs (c : Conference) : Type 0 where
  pub legs : All (λ l. l.ssrc < 2 ^ 32) c.legs
  pub mixer : c.mixer.ssrc < 2 ^ 32

pub ssrcs_fit : (form : Form) (octets : List ℕ) (c : Conference) → conference_from form octets ≡ Ok c → HasSsrcs c
ssrcs_fit form octets c e =
    let none : Fit nothing = record { legs_fit = All-nil (λ l. l.ssrc < 2 ^ 32); mixer_fits = λ m q. absurd (cc q) } in
    let a = lines_of Fit form (line_fits form) none octets c e in
    let d = completed a.0 a.0.mixer c a.2 in
    subst HasSsrcs d.4 (record { legs = a.1.legs_fit; mixer = a.1.mixer_fits d.0 d.1 })
