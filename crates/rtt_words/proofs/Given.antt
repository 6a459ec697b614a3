-- What the texts that clap's model gives each argument ask for, by the number of words.
use Rattle.std.proofs.Common.{◌≡◌, ◌≢◌, ◌∙◌, ◌&&◌, Bool, true, false, List, [], ◌∷◌, Option, Some, None, refl, sym, ap, subst, drop, true≢false}
use Rattle.std.specs.Prelude.{if◌then◌else◌, Result, IfOk}
use Rattle.std.proofs.lemmas.Result.{IfOk-weaker}
use Rattle.std.specs.List.{list_all}
use Rattle.std.specs.Option.{option_map}
use Rattle.file_spec.specs.Numbers.{number, most_ssrc}
use Rattle.command_spec.specs.Usual.{usual_payload_types}
use Rattle.rtt_words.specs.Help.{topic}
use Rattle.rtt_words.specs.Words.{Help, channel_words, help_words, is_word, list_of, list_words, make_words, mix_words, payload_type_pair, read_of, read_words, send_of, send_words, version_words}
use Rattle.clap.specs.Walk.{Text, first_of, nothing_held, rows_after}
use Rattle.clap.specs.Simple.{App, Shape, built, matches_of}
use Rattle.clap.specs.Kinds.{Kinds}
use Rattle.clap.specs.Words.{is_simple_and_free}
use Rattle.clap.specs.Faults.{built_fault, defaults_fault, fault_of}
use Rattle.rtt_words.specs.Apps.{IsForm, Texts, channel_app, channel_given, help_app, help_given, list_app, list_given, make_app, make_given, mix_app, mix_given, read_app, read_given, send_app, send_given, version_app, version_given}
use Rattle.rtt_words.proofs.Plain.{no_types}
use Rattle.rtt_words.proofs.Places.{fault_given, fault_is, is_single, leaf, place_fault, placed, rows_are, rows_given}
use Rattle.std.proofs.lemmas.Bool.{and_parts as both}

-- the texts of the arguments
abbrev texts_given : Shape → List Text → Texts
texts_given s words id = first_of id (rows_given s words)

-- words without a fault ask for what the row says, and of others it says nothing
abbrev Agrees : {A : Type 0} → Kinds → Option A → Option A → Type 0
Agrees [] given said = given ≡ said
Agrees (_ ∷ _) given said = said ≡ None

agrees_taken : {A : Type 0} (fault : Kinds) (given said : Option A) → Agrees fault given said → fault ≡ [] → given ≡ said
agrees_taken [] given said a none = a
agrees_taken (k ∷ more) given said a e = cc

agrees_refused : {A : Type 0} (fault : Kinds) (given said : Option A) → Agrees fault given said → fault ≢ [] → said ≡ None
agrees_refused [] given said a some = absurd (some refl)
agrees_refused (k ∷ more) given said a some = a

-- ---- a command's arguments are a form of its row, where they agree on the words after the name

module _ {A : Type 0} (app : App) (given : Texts → Option A) (row : List Text → Option A) where
  abbrev pub AgreesOnAll : Type 0
  AgreesOnAll = (words : List Text) → list_all is_word words ≡ true → Agrees (fault_given (built app).top words) (given (texts_given (built app).top words)) (row words)

  -- it has positional arguments alone, each of one word, and its name is the first word
  abbrev pub IsPositional : Type 0
  IsPositional =
      (is_simple_and_free app ≡ true) × (list_all is_single (built app).top.rules ≡ true)
      × ((words : List Text) → fault_of app words ≡ built_fault (leaf (built app).top) nothing_held (drop 1 words))
      × ((words : List Text) → matches_of app words ≡ rows_after (built app).top.rules [] (drop 1 words))

  pub form_is : IsPositional → AgreesOnAll → IsForm app given row
  form_is positional agrees =
      let single = positional.1 in
      let same : (words : List Text) → list_all is_word (drop 1 words) ≡ true → fault_of app words ≡ fault_given (built app).top (drop 1 words) =
      λ words plain. positional.2 words ∙ fault_is (built app).top single (drop 1 words) plain in
      record {
        simple = positional.0;
        taken = λ words plain none text reads.
            let rest = drop 1 words in
            let texts : (id : Text) → text id ≡ texts_given (built app).top rest id = λ id. reads id ∙ ap (first_of id) (positional.3 words ∙ rows_are (built app).top single rest plain) in
            ap given (λ i id. texts id i) ∙ agrees_taken _ _ _ (agrees rest plain) (sym (same words plain) ∙ none);
        refused = λ words plain some.
            agrees_refused _ _ _ (agrees (drop 1 words) plain) (λ none. some (same words plain ∙ none));
      }

-- a command that `clap` sees as this one, if one was made
pub form_by : {A C E : Type 0} {app : App} {given : Texts → Option A} {said : List Text → Option A} (app_of : C → App) (made : Result C E)
    → IfOk made (λ c. app_of c ≡ app) → IsForm app given said → IfOk made (λ c. IsForm (app_of c) given said)
form_by {A} {C} {E} {app} {given} {said} app_of made same form =
    IfOk-weaker made _ _ (λ c is. subst (λ (a : App). IsForm a given said) (sym is) form) same

-- ---- the rows

-- where the test holds, the first choice is taken
kept : {A : Type 0} (b : Bool) (answer : Option A) → b ≡ true → answer ≡ (if b then answer else None)
kept true answer e = refl
kept false answer e = absurd (true≢false (sym e))

front : (a b rest : Bool) → (a && (b && rest)) ≡ true → (a && b) ≡ true
front true true rest e = refl
front true false rest e = e
front false b rest e = e

ends : (a b c : Bool) → (a && (b && (c && true))) ≡ true → (a && c) ≡ true
ends true true true e = refl
ends true true false e = e
ends true false c e = absurd (true≢false (sym e))
ends false b c e = e

pub read_agrees : AgreesOnAll read_app read_given read_words
unfolding placed place_fault defaults_fault
read_agrees (a ∷ b ∷ []) e = kept (is_word a) (read_of a (number most_ssrc b) (number most_ssrc b) (Some usual_payload_types)) (both (is_word a) _ e).0
read_agrees (a ∷ b ∷ c ∷ []) e = kept (is_word a) (read_of a (number most_ssrc b) (number most_ssrc c) (Some usual_payload_types)) (both (is_word a) _ e).0
read_agrees (a ∷ b ∷ c ∷ d ∷ []) e = no_types a (number most_ssrc b) (number most_ssrc c)
read_agrees (a ∷ b ∷ c ∷ d ∷ f ∷ []) e = kept (is_word a) (read_of a (number most_ssrc b) (number most_ssrc c) (payload_type_pair d f)) (both (is_word a) _ e).0
read_agrees _ e = refl

pub list_agrees : AgreesOnAll list_app list_given list_words
unfolding placed place_fault defaults_fault
list_agrees (a ∷ []) e = kept (is_word a) (list_of a (Some usual_payload_types)) (both (is_word a) _ e).0
list_agrees (a ∷ b ∷ c ∷ []) e = kept (is_word a) (list_of a (payload_type_pair b c)) (both (is_word a) _ e).0
list_agrees _ e = refl

pub send_agrees : AgreesOnAll send_app send_given send_words
unfolding placed place_fault defaults_fault
send_agrees (a ∷ b ∷ c ∷ d ∷ f ∷ []) e =
    kept (is_word a && is_word b) (send_of a b (number most_ssrc c) (number 65535 d) (number 4294967295 f)) (front (is_word a) (is_word b) _ e)
send_agrees _ e = refl

pub mix_agrees : AgreesOnAll mix_app mix_given mix_words
unfolding placed place_fault defaults_fault
mix_agrees (a ∷ []) e = kept (is_word a) (Some (record { conference = a })) (both (is_word a) _ e).0
mix_agrees _ e = refl

pub make_agrees : AgreesOnAll make_app make_given make_words
unfolding placed place_fault defaults_fault
make_agrees (a ∷ []) e = refl
make_agrees _ e = refl

pub channel_agrees : AgreesOnAll channel_app channel_given channel_words
unfolding placed place_fault defaults_fault
channel_agrees (a ∷ b ∷ c ∷ []) e =
    kept (is_word a && is_word c) (option_map (λ s. record { file = a; ssrc = s; out = c }) (number most_ssrc b)) (ends (is_word a) (is_word b) (is_word c) e)
channel_agrees _ e = refl

pub help_agrees : AgreesOnAll help_app help_given help_words
unfolding placed place_fault defaults_fault
help_agrees [] e = refl
help_agrees (a ∷ []) e = kept (is_word a) (option_map Help (topic a)) (both (is_word a) _ e).0
help_agrees _ e = refl

pub version_agrees : AgreesOnAll version_app version_given version_words
unfolding placed place_fault defaults_fault
version_agrees [] e = refl
version_agrees _ e = refl
