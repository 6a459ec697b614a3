-- The statuses with which each command can end.
use Rattle.std.specs.Prelude.{◌≡◌, ◌==◌, ◌||◌, ℕ, Bool, true, false, Some, List, [], ◌∷◌, map}
use Rattle.std.specs.List.{list_any}
use Rattle.rtt_words.specs.Words.{Command, Read, ListRecords, Send, Mix, Attend, Cascade, Make, Live, Watch, Relay, Channel, Show, Times, Script, Check, Help, Version}
use Rattle.rtt_words.specs.declared.topics.Topic.{Topic}
use Rattle.rtt_words.specs.declared.topics.Topic.TheVariants as of
use Rattle.rtt_words.specs.Help.{statuses}
use Rattle.rtt_top.specs.Outside.{Outside, Output}
use Rattle.rtt_top.specs.Runs.{Runs}

-- what each can: all was done, the output or a file failed, memory ran out
abbrev pub is_always : ℕ → Bool
is_always status = status == 0 || status == 7 || status == 70

-- a file could not be opened or read
abbrev pub is_unread : ℕ → Bool
is_unread status = status == 3 || status == 4

-- Why this command stops before all was done, besides. 5: a line of a script or a conference is refused; 6: a recording or frames are;
-- 8: a link failed; 9: a conference was not over; 1: a file is not taken that `check` has looked at.
abbrev pub can_stop : Command → ℕ → Bool
can_stop (Read r) status = is_unread status || status == 6
can_stop (ListRecords l) status = is_unread status || status == 6
can_stop (Send s) status = is_unread status || status == 5
can_stop (Mix m) status = is_unread status || status == 5 || status == 6 || status == 9
can_stop (Attend m) status = is_unread status || status == 5 || status == 6 || status == 9
can_stop (Cascade c) status = is_unread status || status == 5 || status == 6 || status == 9
can_stop (Make m) status = status == 9
can_stop (Live m) status = is_unread status || status == 5 || status == 8
can_stop (Watch m) status = is_unread status || status == 5 || status == 8
can_stop (Relay s) status = is_unread status || status == 6
can_stop (Channel c) status = is_unread status || status == 6
can_stop (Show l) status = is_unread status || status == 6
can_stop (Times l) status = is_unread status || status == 6
can_stop (Script r) status = is_unread status || status == 6
can_stop (Check c) status = is_unread status || status == 1
can_stop (Help t) status = false
can_stop Version status = false

abbrev pub can_end : Command → ℕ → Bool
can_end c status = is_always status || can_stop c status

-- a run of a command ends so, whatever the world and the outputs tell
abbrev pub EndsAsItCan : (WorldTells OutTells ErrTells : Type 0) → Type 0
EndsAsItCan WorldTells OutTells ErrTells =
    (c : Command) (old new : Outside) (before after : Output) (status : ℕ)
    → Runs (Some c) WorldTells OutTells ErrTells old new before after status → can_end c status ≡ true

-- what `help` calls this command
abbrev pub topic_of : Command → Topic
topic_of (Read r) = of.Read
topic_of (ListRecords l) = of.List
topic_of (Send s) = of.Send
topic_of (Mix m) = of.Mix
topic_of (Attend m) = of.Attend
topic_of (Cascade c) = of.Cascade
topic_of (Make m) = of.Make
topic_of (Live m) = of.Live
topic_of (Watch m) = of.Watch
topic_of (Relay s) = of.Relay
topic_of (Channel c) = of.Channel
topic_of (Show l) = of.Show
topic_of (Times l) = of.Times
topic_of (Script r) = of.Script
topic_of (Check c) = of.Check
topic_of (Help t) = of.Help
topic_of Version = of.Version

-- all statuses of the program
abbrev pub all_statuses : List ℕ
all_statuses = 0 ∷ 1 ∷ 2 ∷ 3 ∷ 4 ∷ 5 ∷ 6 ∷ 7 ∷ 8 ∷ 9 ∷ 70 ∷ []

-- `help` names the statuses with which a command can end, and no other
abbrev pub HelpNamesThem : Type 0
HelpNamesThem = (c : Command) → map (can_end c) all_statuses ≡ map (λ status. list_any (λ named. named == status) (statuses (topic_of c))) all_statuses
