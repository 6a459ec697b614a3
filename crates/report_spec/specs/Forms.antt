-- What a file is (profile): by its first octets, or, where it is text, by its first line that says something and by its legs; where some
-- legs are over links and others over recordings, by the form in which it goes furthest.
use Rattle.std.specs.Prelude.{ℕ, ◌==◌, Bool, true, false, not, ◌&&◌, ◌||◌, nat_eq, nat_lt, if◌then◌else◌, List, [], ◌∷◌, Option, None, Some, Result, Ok, Err, find, drop, length, codes, bytes_eq}
use Rattle.std.specs.List.{list_any, starts_with}
use Rattle.std.specs.Char.{is_ascii_digit}
use Rattle.std.specs.Option.{option_map_or}
use Rattle.std.specs.Str.{byte, is_utf8}
use Rattle.std.specs.Str.Lines.{lines}
use Rattle.file_spec.specs.declared.conference_lines.Form.{Form}
use Rattle.file_spec.specs.declared.conference_lines.Form.TheVariants as of
use Rattle.file_spec.specs.Conference.{Conference, conference_from, is_blank}
use Rattle.file_spec.specs.Lines as file
use Rattle.file_spec.specs.Lines.{words}
use Rattle.file_spec.specs.Numbers.{is_number}
use Rattle.report_spec.specs.declared.forms.FileForm.{FileForm}
use Rattle.report_spec.specs.declared.forms.FileForm.TheVariants.{Gzip, Pcap, PcapNg, Empty, Utf16, Nothing, Recording, Frames, Script, Recordings, Links}
use Rattle.report_spec.specs.declared.forms.LineWord.{LineWord}
use Rattle.report_spec.specs.declared.forms.LineWord.TheVariants as word

-- the file begins with these octets
abbrev pub begins : List ℕ → List ℕ → Bool
begins octets front = starts_with nat_eq octets front

-- a capture or a compressed file, by its magic octets: gzip (RFC 1952), pcap in either order of octets and with either unit of time, pcapng
abbrev pub foreign : List ℕ → Option FileForm
foreign octets =
    if begins octets (31 ∷ 139 ∷ []) then Some Gzip
    else (if begins octets (212 ∷ 195 ∷ 178 ∷ 161 ∷ []) then Some Pcap
    else (if begins octets (161 ∷ 178 ∷ 195 ∷ 212 ∷ []) then Some Pcap
    else (if begins octets (77 ∷ 60 ∷ 178 ∷ 161 ∷ []) then Some Pcap
    else (if begins octets (161 ∷ 178 ∷ 60 ∷ 77 ∷ []) then Some Pcap
    else (if begins octets (10 ∷ 13 ∷ 13 ∷ 10 ∷ []) then Some PcapNg else None)))))

-- ---- a line

-- an octet with which a moment begins, or what is meant as one: a digit, a sign or a point
abbrev pub is_of_moment : ℕ → Bool
is_of_moment c = is_ascii_digit c || (c == byte "-" || (c == byte "+" || c == byte "."))

-- the first octet of a line that is no space is such a one
abbrev pub begins_with_moment : List ℕ → Bool
begins_with_moment line = option_map_or is_of_moment (find (λ c. not (c == byte " ")) line) false

-- the words of a line, where it is text
abbrev pub said : List ℕ → List (List ℕ)
said line = if is_utf8 line then words line else []

-- a line that begins with `leg` or `mixer`
abbrev pub is_conference_word : List ℕ → Bool
is_conference_word w = bytes_eq w (codes "leg") || bytes_eq w (codes "mixer")

abbrev pub is_of_conference : List (List ℕ) → Bool
is_of_conference [] = false
is_of_conference (w ∷ _) = is_conference_word w

-- the IN of a leg is a number, as a port is, or its OUT has a colon, as an address with a port has
abbrev pub is_linked : List ℕ → List ℕ → Bool
is_linked input output = is_number input || list_any (λ c. c == byte ":") output

-- as many words as a leg has, with payload types or without: where a space stands in a name there are others
abbrev pub has_leg_words : List (List ℕ) → Bool
has_leg_words all = length all == 6 || length all == 8

abbrev pub leg_is_linked : List (List ℕ) → Bool
leg_is_linked (w ∷ _ ∷ _ ∷ _ ∷ input ∷ output ∷ _) = bytes_eq w (codes "leg") && is_linked input output
leg_is_linked _ = false

abbrev pub leg_is_recorded : List (List ℕ) → Bool
leg_is_recorded (w ∷ _ ∷ _ ∷ _ ∷ input ∷ output ∷ _) = bytes_eq w (codes "leg") && not (is_linked input output)
leg_is_recorded _ = false

-- a leg over a link, and one over recordings
abbrev pub is_of_link : List (List ℕ) → Bool
is_of_link all = has_leg_words all && leg_is_linked all

abbrev pub is_of_recording : List (List ℕ) → Bool
is_of_recording all = has_leg_words all && leg_is_recorded all

-- what a line tells that begins with this word: of a packet, of what is asked beside the mixing, of a time or the turns, of anything
abbrev pub packet_word : List ℕ → LineWord
packet_word w =
    if bytes_eq w (codes "lose") then word.Lose
    else (if bytes_eq w (codes "delay") then word.Delay
    else (if bytes_eq w (codes "twice") then word.Twice else word.Other))

abbrev pub service_word : List ℕ → LineWord
service_word w =
    if bytes_eq w (codes "gone") then word.Gone
    else (if bytes_eq w (codes "operator") then word.Operator
    else (if bytes_eq w (codes "record") then word.Record
    else (if bytes_eq w (codes "follow") then word.Follow else packet_word w)))

abbrev pub time_word : List ℕ → LineWord
time_word w =
    if bytes_eq w (codes "tick") then word.Tick
    else (if bytes_eq w (codes "spacing") then word.Spacing
    else (if bytes_eq w (codes "wait") then word.Wait
    else (if bytes_eq w (codes "turns") then word.Turns
    else (if bytes_eq w (codes "relabel") then word.Relabel
    else (if bytes_eq w (codes "mtu") then word.Mtu
    else (if bytes_eq w (codes "counts") then word.Counts
    else (if bytes_eq w (codes "long") then word.Long else service_word w)))))))

abbrev pub line_word : List ℕ → LineWord
line_word w =
    if bytes_eq w (codes "leg") then word.Leg
    else (if bytes_eq w (codes "mixer") then word.Mixer
    else (if bytes_eq w (codes "gens") then word.Generations
    else (if bytes_eq w (codes "stay") then word.Stay else time_word w)))

-- what a line tells, by its first word
abbrev pub word_of : List (List ℕ) → LineWord
word_of [] = word.Other
word_of (w ∷ _) = line_word w

-- ---- a text, by its lines

-- the first line that says something
abbrev pub first_said : List (List ℕ) → Option (List ℕ)
first_said [] = None
first_said (l ∷ more) = if is_blank l then first_said more else Some l

-- the line of the first fault of a conference, where it has one
abbrev pub line_refused : Result Conference file.Refusal → Option ℕ
line_refused (Ok c) = None
line_refused (Err r) = Some r.line

abbrev pub fault_line : Form → List ℕ → Option ℕ
fault_line form text = line_refused (conference_from form text)

-- there is no fault in the lines up to this one
abbrev pub is_right_to : ℕ → Option ℕ → Bool
is_right_to line None = true
is_right_to line (Some fault) = nat_lt line fault

-- what has the one first fault goes further than what has the other
abbrev pub goes_further : Option ℕ → Option ℕ → Bool
goes_further fault None = false
goes_further fault (Some line) = is_right_to line fault

-- the form in which a conference goes furthest, which is that of recordings where it goes as far in both
abbrev pub furthest : List ℕ → FileForm
furthest text = if goes_further (fault_line of.Links text) (fault_line of.Files text) then Links else Recordings

abbrev pub mixed_of : List ℕ → FileForm
mixed_of text = if list_any (λ l. is_of_recording (said l)) (lines text) then furthest text else Links

-- it is of links where its legs are, of recordings where none is over a link, and of the form in which it goes furthest where some are
abbrev pub conference_of : List ℕ → FileForm
conference_of text = if list_any (λ l. is_of_link (said l)) (lines text) then mixed_of text else Recordings

-- a text that does not begin as a script does is a conference where it has a leg or a mixer
abbrev pub other_text : List ℕ → FileForm
other_text text = if list_any (λ l. is_of_conference (said l)) (lines text) then conference_of text else Nothing

abbrev pub text_form : Option (List ℕ) → List ℕ → FileForm
text_form None text = Script
text_form (Some l) text = if begins_with_moment l then Script else other_text text

-- ---- a file

-- the byte order mark of UTF-8 stands in front
abbrev pub has_mark : List ℕ → Bool
has_mark octets = begins octets (239 ∷ 187 ∷ 191 ∷ [])

abbrev pub without_mark : List ℕ → List ℕ
without_mark octets = if has_mark octets then drop 3 octets else octets

abbrev pub is_utf16 : List ℕ → Bool
is_utf16 octets = begins octets (255 ∷ 254 ∷ []) || begins octets (254 ∷ 255 ∷ [])

-- what a file is that is none of a foreign form; frames begin with a time below 2^24, so with the octet 0, which begins no text
abbrev pub form_of : List ℕ → FileForm
form_of octets =
    if length octets == 0 then Empty
    else (if begins octets (codes "#!rtpplay1.0 ") then Recording
    else (if begins octets (0 ∷ []) then Frames
    else (if is_utf16 octets then Utf16
    else text_form (first_said (lines (without_mark octets))) (without_mark octets))))
