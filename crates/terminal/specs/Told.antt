-- What a call tells of all that may have come to the terminal before it (profile).
use Rattle.std.specs.Prelude.{◌≡◌, ◌<◌, ℕ, List, [], ◌∷◌, ◌++◌, map, Err}
use Rattle.rtt_base.specs.declared.limits.TheConstants.{END_OF_MOMENTS, MOST_ARRIVALS}
use Rattle.wire_spec.specs.declared.faults.TextFault.{TextFault}
use Rattle.wire_spec.specs.Dump.{Item, sent_item}
use Rattle.reorder_buffer.specs.Stories.{Story}
use Rattle.receiver.specs.Hears.{all_given}
use Rattle.view_spec.specs.Seen.{Speaker, fate_of, is_refused, is_foreign, text_seen, unaware_seen, aware_seen}
use Rattle.terminal.specs.declared.settings.TerminalSettings.{TerminalSettings}
use Rattle.terminal.specs.declared.terminals.Terminal.{Terminal}
use Rattle.terminal.specs.declared.views.View.{View}
use Rattle.terminal.specs.declared.views.View.TheVariants.{Text, Unaware, Aware}
use Rattle.terminal.specs.Terminals.{reception, counts_of, one_if, IsUnread, IsListening, HearsTexts, Listens, Heard}

-- ---- something comes

-- a packet may come at this moment
pub record MayTake (t : Terminal) (moment : ℕ) : Type 0 where
  pub at : moment < END_OF_MOMENTS
  pub stands : IsListening t
  pub few : (counts_of t).packets < MOST_ARRIVALS

-- behind whatever came, these came
abbrev pub Takes : Terminal → List Item → Terminal → Type 0
Takes old items new = (c : TerminalSettings) (sources : List ℕ) (came : List Item) → Listens old c sources came
    → Listens new c sources (came ++ items)

-- behind whatever came, these octets came at this moment
abbrev pub TakesPacket : Terminal → ℕ → List ℕ → Terminal → Type 0
TakesPacket old at octets new = Takes old (sent_item (at, octets) ∷ []) new

-- behind whatever came, a packet came whose octets are not all there, or too many
abbrev pub TakesUnread : Terminal → Terminal → Type 0
TakesUnread old new = (c : TerminalSettings) (sources : List ℕ) (came : List Item) (item : Item)
    → IsUnread item.what → Listens old c sources came → Listens new c sources (came ++ item ∷ [])

-- whatever came, nothing else came
abbrev pub ListensAlike : Terminal → Terminal → Type 0
ListensAlike old new = (c : TerminalSettings) (sources : List ℕ) (came : List Item)
    → Listens old c sources came → Listens new c sources came

-- it listens to the same sources still
abbrev pub ListensStill : Terminal → Terminal → Type 0
ListensStill old new = (c : TerminalSettings) (sources : List ℕ) (came : List Item)
    → Listens old c sources came → (more : List Item) × Listens new c sources more

-- whether a packet with this fault is one of those that count as refused
abbrev pub one_if_refused : TextFault → ℕ
one_if_refused fault = one_if (is_refused (fate_of (Err fault)))

-- or as foreign
abbrev pub one_if_foreign : TextFault → ℕ
one_if_foreign fault = one_if (is_foreign (fate_of (Err fault)))

-- ---- it is heard

-- all that is ready was given, and is in the texts
abbrev pub GathersTexts : Terminal → Terminal → Type 0
GathersTexts old new = (c : TerminalSettings) (sources : List ℕ) (story : Story)
    → HearsTexts old c sources story → HearsTexts new c sources (all_given story)

-- whatever came was heard to its end
abbrev pub HearsToEnd : Terminal → Terminal → Type 0
HearsToEnd old new = (c : TerminalSettings) (sources : List ℕ) (came : List Item) → Listens old c sources came
    → Heard new c sources came

-- ---- it is seen

-- what is seen of the one source was appended
abbrev pub AppendsTextSeen : Terminal → List ℕ → List ℕ → Type 0
AppendsTextSeen t old new = (c : TerminalSettings) (source : ℕ) (came : List Item)
    → Heard t c (source ∷ []) came → new ≡ old ++ text_seen (reception c) source came

-- what is seen at an unaware terminal of this name was appended
abbrev pub AppendsUnawareSeen : Terminal → List ℕ → List ℕ → List ℕ → Type 0
AppendsUnawareSeen t name old new = (c : TerminalSettings) (source : ℕ) (came : List Item)
    → Heard t c (source ∷ []) came → new ≡ old ++ unaware_seen (reception c) name source came

-- what is seen at an aware terminal of this name, of the speakers with these names, was appended
abbrev pub AppendsAwareSeen : Terminal → List ℕ → List (List ℕ) → List ℕ → List ℕ → Type 0
AppendsAwareSeen t name names old new =
    (c : TerminalSettings) (speakers : List Speaker) (came : List Item)
    → names ≡ map (λ s. s.name) speakers → Heard t c (map (λ s. s.ssrc) speakers) came
    → new ≡ old ++ aware_seen (reception c) name speakers came

-- what this view shows was appended
abbrev pub AppendsSeen : Terminal → View → List ℕ → List ℕ → Type 0
AppendsSeen t Text old new = AppendsTextSeen t old new
AppendsSeen t (Unaware name) old new = AppendsUnawareSeen t name.now old new
AppendsSeen t (Aware name names) old new = AppendsAwareSeen t name.now names.now old new
