use Rattle.std.proofs.Common.{◌≡◌, ◌≤◌, ◌++◌, ℕ, List, take, length, sym, subst, ap, ◌∙◌, IsUtf8}
use Rattle.std.proofs.lemmas.List.{take-append-drop}
use Rattle.std.proofs.lemmas.List.Elements.{All-same}
use Rattle.std.proofs.lemmas.Str.{IsCharBoundary-from_take, IsUtf8-from_ascii}
use Rattle.unaware_view.specs.declared.runs.Run.{Run}
use Rattle.unaware_view.specs.Runs.{IsPlain, with_plain}
use Rattle.unaware_view.proofs.PlainRuns.{ascii-plain, write_plain_step}
use Rattle.unaware_view.proofs.runs.Run.write_plain.Goals as goal

pub split_at-requires : goal.split_at-requires
split_at-requires c =
    let text = c.args.text.now in
    let n = c.plain_len.result in
    let same = c.as_bytes.ensures.value in
    let plain = All-same IsPlain (take n text) (take n c.as_bytes.result.now) (ap (λ (l : List ℕ). take n l) (sym same)) c.plain_len.ensures.plain in
    IsCharBoundary-from_take text n (subst IsUtf8 same c.as_bytes.ensures.utf8) (subst (λ (l : List ℕ). n ≤ length l) same c.plain_len.ensures.fits) (IsUtf8-from_ascii (take n text) (ascii-plain (take n text) plain))

pub returns-clause-writes : goal.returns-clause-writes
returns-clause-writes c first alone behind_cr run cs before w =
    let me = c.args.self.now in
    let text = c.args.text.now in
    let n = c.plain_len.result in
    let octets = c.as_bytes-octets.result.now in
    let others = c.split_at.result.1.now in
    let front : octets ≡ take n c.as_bytes.result.now = c.as_bytes-octets.ensures.value ∙ (c.split_at.ensures.front ∙ ap (λ (l : List ℕ). take n l) (sym c.as_bytes.ensures.value)) in
    let parts : text ≡ octets ++ others =
    sym (take-append-drop n text) ∙ (λ i. sym (c.as_bytes-octets.ensures.value ∙ c.split_at.ensures.front) i ++ sym c.split_at.ensures.back i) in
    let plain = All-same IsPlain octets (take n c.as_bytes.result.now) front c.plain_len.ensures.plain in
    write_plain_step c.args.name.now first me c.read_plain.new.self alone behind_cr run cs before c.args.out.now c.append.new.out text others octets c.from.result plain
    (sym c.is_empty.ensures ∙ c.if-is_empty.false) c.from.ensures parts
    (c.read_plain.ensures ∙ ap (λ (r : Run). with_plain r octets) c.head_before.ensures.run)
    (c.append.ensures ∙ ap (λ (l : List ℕ). l ++ octets) c.head_before.ensures.out) w
