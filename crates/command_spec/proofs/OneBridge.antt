-- What lies in files determines the conference, the inputs and the table of a bridge.
use Rattle.std.proofs.Common.{◌≡◌, ℕ, inl, inr, Option, Some, List, [], ◌∷◌, refl, ap, sym, subst, ◌∙◌}
use Rattle.std.specs.Prelude.{Result, Ok}
use Rattle.std.specs.List.{AllZip}
use Rattle.std.proofs.lemmas.Bool.{cases_Bool}
use Rattle.file_spec.specs.declared.conference_lines.Form.TheVariants.{Files}
use Rattle.file_spec.specs.declared.conference_lines.LegLine.{LegLine}
use Rattle.file_spec.specs.Lines as lines
use Rattle.file_spec.specs.Conference.{Conference, conference_from}
use Rattle.mixer_spec.specs.Table.{Table}
use Rattle.mixer_spec.specs.Bridged.{IsConferenceMixed}
use Rattle.command_spec.specs.Laws.{split_of}
use Rattle.command_spec.specs.Work.{Contents}
use Rattle.command_spec.specs.Attended.{IsAttendedFrom}
use Rattle.command_spec.specs.Attending.{named}
use Rattle.command_spec.specs.Cascaded.{IsCascadedFrom, IsTextOf}
use Rattle.command_spec.specs.Cascading.{is_on_trunk, trunk_of}
use Rattle.command_spec.specs.Mixing.{input_at}
use Rattle.command_spec.specs.Bridges.{Bridge, IsMixedFrom}

some_same : (x y : List ℕ) → Some x ≡ Some y → x ≡ y
some_same x y e = cc e

conference_same : (x y : Conference) (r : Result Conference lines.Refusal) → r ≡ Ok x → r ≡ Ok y → x ≡ y
conference_same x y r e f = cc (e, f)

table_same : (x y : Table) (r : Option Table) → r ≡ Some x → r ≡ Some y → x ≡ y
table_same x y r e f = cc (e, f)

zip_same : (held : Contents) (legs : List LegLine) (xs ys : List (List ℕ)) → AllZip (λ leg octets. held leg.input ≡ Some octets) legs xs → AllZip (λ leg octets. held leg.input ≡ Some octets) legs ys → xs ≡ ys
zip_same held [] [] [] a b = refl
zip_same held [] [] (y ∷ ys) a b = absurd b
zip_same held [] (x ∷ xs) ys a b = absurd a
zip_same held (l ∷ ls) [] ys a b = absurd a
zip_same held (l ∷ ls) (x ∷ xs) [] a b = absurd b
zip_same held (l ∷ ls) (x ∷ xs) (y ∷ ys) a b =
    ap (λ z. z ∷ xs) (some_same x y (sym a.0 ∙ b.0)) ∙ ap (λ zs. y ∷ zs) (zip_same held ls xs ys a.1 b.1)

one_bridge : (a b : Bridge) → a.conference ≡ b.conference → a.inputs ≡ b.inputs → a.table ≡ b.table → a ≡ b
one_bridge a b c i t = λ k. record { conference = c k; inputs = i k; table = t k }

-- the conference and the octets of its inputs decide the table
one_mixed : (a b : Bridge) → a.conference ≡ b.conference → a.inputs ≡ b.inputs → IsConferenceMixed a.conference (input_at a.inputs) a.table → IsConferenceMixed b.conference (input_at b.inputs) b.table → a ≡ b
one_mixed a b c i over_a over_b = one_bridge a b c i (table_same a.table b.table _ over over_b)
  where
    over : IsConferenceMixed b.conference (input_at b.inputs) a.table
    over = subst (λ (xs : List (List ℕ)). IsConferenceMixed b.conference (input_at xs) a.table) i (subst (λ (x : Conference). IsConferenceMixed x (input_at a.inputs) a.table) c over_a)

-- what lies in a file decides the conference there
one_read : (held : Contents) (file : List ℕ) (c d : Conference) → ((octets : List ℕ) × (held file ≡ Some octets) × (conference_from Files octets ≡ Ok c)) → ((octets : List ℕ) × (held file ≡ Some octets) × (conference_from Files octets ≡ Ok d)) → c ≡ d
one_read held file c d x y = conference_same c d (conference_from Files x.0) x.2 (ap (conference_from Files) (some_same x.0 y.0 (sym x.1 ∙ y.1)) ∙ y.2)

pub one_law : (held : Contents) (file : List ℕ) (a b : Bridge) → IsMixedFrom held file a → IsMixedFrom held file b → a ≡ b
one_law held file a b ma mb = one_mixed a b c i ma.over mb.over
  where
    c : a.conference ≡ b.conference
    c = one_read held file a.conference b.conference ma.read mb.read

    i : a.inputs ≡ b.inputs
    i = zip_same held b.conference.legs a.inputs b.inputs (subst (λ (x : Conference). AllZip (λ leg octets. held leg.input ≡ Some octets) x.legs a.inputs) c ma.inputs_lie) mb.inputs_lie

pub attended_law : (held : Contents) (file : List ℕ) (c d : Conference) (a b : Bridge) → IsAttendedFrom held file c a → IsAttendedFrom held file d b → (c ≡ d) × (a ≡ b)
attended_law held file c d a b ma mb = (e, one_mixed a b named_same i ma.over mb.over)
  where
    e : c ≡ d
    e = one_read held file c d ma.read mb.read

    i : a.inputs ≡ b.inputs
    i = zip_same held d.legs a.inputs b.inputs (subst (λ (x : Conference). AllZip (λ leg octets. held leg.input ≡ Some octets) x.legs a.inputs) e ma.inputs_lie) mb.inputs_lie

    named_same : a.conference ≡ b.conference
    named_same = ma.is_named ∙ (ap (λ (x : Conference). named x a.inputs) e ∙ (ap (named d) i ∙ sym mb.is_named))

text_same : (held : Contents) (split : ℕ → List ℕ) (leg : LegLine) (x y : List ℕ) → IsTextOf held split leg x → IsTextOf held split leg y → x ≡ y
text_same held split leg x y a b = elim (cases_Bool (is_on_trunk leg)) [
  | inl t ↦ a.on_trunk t ∙ sym (b.on_trunk t)
  | inr f ↦ some_same x y (sym (a.read f) ∙ b.read f)
]

texts_same : (held : Contents) (split : ℕ → List ℕ) (legs : List LegLine) (xs ys : List (List ℕ)) → AllZip (IsTextOf held split) legs xs → AllZip (IsTextOf held split) legs ys → xs ≡ ys
texts_same held split [] [] [] a b = refl
texts_same held split [] [] (y ∷ ys) a b = absurd b
texts_same held split [] (x ∷ xs) ys a b = absurd a
texts_same held split (l ∷ ls) [] ys a b = absurd a
texts_same held split (l ∷ ls) (x ∷ xs) [] a b = absurd b
texts_same held split (l ∷ ls) (x ∷ xs) (y ∷ ys) a b =
    ap (λ z. z ∷ xs) (text_same held split l x y a.0 b.0) ∙ ap (λ zs. y ∷ zs) (texts_same held split ls xs ys a.1 b.1)

pub cascaded_law : (held : Contents) (conference file : List ℕ) (ssrc : ℕ) (x y : List ℕ) (a b : Bridge) → IsCascadedFrom held conference file ssrc x a → IsCascadedFrom held conference file ssrc y b → (x ≡ y) × (a ≡ b)
cascaded_law held conference file ssrc x y a b ma mb = (e, one_mixed a b c i ma.over mb.over)
  where
    e : x ≡ y
    e = some_same x y (sym ma.lies ∙ mb.lies)

    c : a.conference ≡ b.conference
    c = one_read held conference a.conference b.conference ma.read mb.read

    texts : AllZip (IsTextOf held (split_of (trunk_of b.conference ssrc) y)) b.conference.legs a.inputs
    texts = subst (λ (q : List ℕ). AllZip (IsTextOf held (split_of (trunk_of b.conference ssrc) q)) b.conference.legs a.inputs) e
        (subst (λ (q : Conference). AllZip (IsTextOf held (split_of (trunk_of q ssrc) x)) q.legs a.inputs) c ma.texts_lie)

    i : a.inputs ≡ b.inputs
    i = texts_same held (split_of (trunk_of b.conference ssrc) y) b.conference.legs a.inputs b.inputs texts mb.texts_lie
