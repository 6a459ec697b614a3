use Rattle.std.proofs.Common.{◌≡◌, ℕ, ◌+◌, Bool, true, false, ◌&&◌, eqb, List, [], ◌∷◌, ◌++◌, ◌⊎◌, inl, inr, refl, sym, ap, ◌∙◌, arith, string_bytes, encode_utf8_all}
use Rattle.std.proofs.lemmas.Bool.Decides.{nat_tests}
use Rattle.view_spec.specs.declared.classes.CharClass.{CharClass}
use Rattle.view_spec.specs.declared.classes.CharClass.TheVariants.{Erase, Bell, NewLine, Silent, Marker, Print}
use Rattle.view_spec.specs.Characters.{class_of}
use Rattle.view_spec.specs.Shown.{signs, survivors, bells, ends_with_cr}
use Rattle.view_spec.proofs.Steps.{stands-erase, stands-bell, stands-silent, stands-shown, stands-new_line, stands-cr_lf, bells_more, bells_same, bells_shown, ends_with_cr-last}
use Rattle.t140_text.specs.declared.screens.Screen.{Screen}
use Rattle.t140_text.proofs.Erased.{longer_text}
use Rattle.t140_text.proofs.screens.Screen.read.Goals as goal
use Rattle.t140_text.proofs.screens.Screen.read.Goals.{in-Erase+in_ok-erase-in-Erase, in-Bell, in-NewLine, in-NewLine-2+in_ok-push-in-NewLine-2, then-c-eq10+else-self, else-c-eq10, in-Silent, in-Marker+in_ok-push-in-Marker}

-- the text and the bells after one more character, of a screen that is another by an equation
text_of : (s t : Screen) (read : List ℕ) → s ≡ t → string_bytes t.text ≡ encode_utf8_all (survivors (signs read)) → string_bytes s.text ≡ encode_utf8_all (survivors (signs read))
text_of s t read e h = ap (λ (x : Screen). string_bytes x.text) e ∙ h

bells_of : (s t : Screen) (read : List ℕ) → s ≡ t → t.bells ≡ bells read → s.bells ≡ bells read
bells_of s t read e h = ap (λ (x : Screen). x.bells) e ∙ h

-- an LF after a CR, and any other new line
cr_lf : (cs : List ℕ) (c : ℕ) → c ≡ 0x0A → ends_with_cr cs ≡ true → survivors (signs (cs ++ c ∷ [])) ≡ survivors (signs cs)
cr_lf cs c e after = rw e (stands-cr_lf cs after)

apart_by_cr : (b d : Bool) → d ≡ false → b && d ≡ false
apart_by_cr true d e = e
apart_by_cr false d e = refl

apart_by_lf : (c : ℕ) (d : Bool) → (c ≡ 0x0A → ⊥) → eqb c 0x0A && d ≡ false
apart_by_lf c d other = let e : eqb c 0x0A ≡ false = grind (arith, nat_tests) in rw e refl

-- a marker, or what prints
shown_as : (c : ℕ) (k : CharClass) → k ≡ class_of c → (k ≡ Marker) ⊎ (k ≡ Print) → (class_of c ≡ Marker) ⊎ (class_of c ≡ Print)
shown_as c k e (inl m) = inl (sym e ∙ m)
shown_as c k e (inr p) = inr (sym e ∙ p)

pub returns : goal.returns
returns c cs h = record {
  text = elim c.match-class.branch [
    | in-Erase+in_ok-erase-in-Erase w ↦
        let class : class_of c.args.c ≡ Erase = sym c.class.ensures ∙ w.in-Erase.is in
        text_of _ _ (cs ++ c.args.c ∷ []) w.self-is (w.in_ok-erase-in-Erase.ensures (survivors (signs cs)) h.text
        ∙ ap encode_utf8_all (sym (stands-erase cs c.args.c class)))
    | in-Bell w ↦
        let class : class_of c.args.c ≡ Bell = sym c.class.ensures ∙ w.in-Bell.is in
        text_of _ _ (cs ++ c.args.c ∷ []) w.self-is (h.text ∙ ap encode_utf8_all (sym (stands-bell cs c.args.c class)))
    | in-NewLine w ↦
        let after : ends_with_cr cs ≡ true = sym h.cr ∙ w.if-self.true in
        text_of _ _ (cs ++ c.args.c ∷ []) w.self-is (h.text ∙ ap encode_utf8_all (sym (cr_lf cs c.args.c w.if-c-eq10.true after)))
    | in-NewLine-2+in_ok-push-in-NewLine-2 w ↦
        let class : class_of c.args.c ≡ NewLine = sym c.class.ensures ∙ w.in-NewLine-2.is in
        let apart : eqb c.args.c 0x0A && ends_with_cr cs ≡ false = elim w.if-c-eq10.branch [
          | then-c-eq10+else-self v ↦ apart_by_cr (eqb c.args.c 0x0A) (ends_with_cr cs) (sym h.cr ∙ v.if-self.false)
          | else-c-eq10 v ↦ apart_by_lf c.args.c (ends_with_cr cs) v.if-c-eq10.false
        ] in
        text_of _ _ (cs ++ c.args.c ∷ []) w.self-is (w.in_ok-push-in-NewLine-2.ensures.bytes
        ∙ (longer_text _ (survivors (signs cs)) 0x0A h.text ∙ ap encode_utf8_all (sym (stands-new_line cs c.args.c class apart))))
    | in-Silent w ↦
        let class : class_of c.args.c ≡ Silent = sym c.class.ensures ∙ w.in-Silent.is in
        text_of _ _ (cs ++ c.args.c ∷ []) w.self-is (h.text ∙ ap encode_utf8_all (sym (stands-silent cs c.args.c class)))
    | in-Marker+in_ok-push-in-Marker w ↦
        text_of _ _ (cs ++ c.args.c ∷ []) w.self-is (w.in_ok-push-in-Marker.ensures.bytes
        ∙ (longer_text _ (survivors (signs cs)) c.args.c h.text ∙ ap encode_utf8_all (sym (stands-shown cs c.args.c (shown_as c.args.c _ c.class.ensures w.in-Marker.is)))))
  ];
  rung = elim c.match-class.branch [
    | in-Erase+in_ok-erase-in-Erase w ↦ let class : class_of c.args.c ≡ Erase = sym c.class.ensures ∙ w.in-Erase.is in
        bells_of _ _ (cs ++ c.args.c ∷ []) w.self-is (h.rung ∙ sym (bells_same cs c.args.c (rw class refl)))
    | in-Bell w ↦ let class : class_of c.args.c ≡ Bell = sym c.class.ensures ∙ w.in-Bell.is in
        bells_of _ _ (cs ++ c.args.c ∷ []) w.self-is (ap (λ n. n + 1) h.rung ∙ sym (bells_more cs c.args.c class))
    | in-NewLine w ↦ let class : class_of c.args.c ≡ NewLine = sym c.class.ensures ∙ w.in-NewLine.is in
        bells_of _ _ (cs ++ c.args.c ∷ []) w.self-is (h.rung ∙ sym (bells_same cs c.args.c (rw class refl)))
    | in-NewLine-2+in_ok-push-in-NewLine-2 w ↦ let class : class_of c.args.c ≡ NewLine = sym c.class.ensures ∙ w.in-NewLine-2.is in
        bells_of _ _ (cs ++ c.args.c ∷ []) w.self-is (h.rung ∙ sym (bells_same cs c.args.c (rw class refl)))
    | in-Silent w ↦ let class : class_of c.args.c ≡ Silent = sym c.class.ensures ∙ w.in-Silent.is in
        bells_of _ _ (cs ++ c.args.c ∷ []) w.self-is (h.rung ∙ sym (bells_same cs c.args.c (rw class refl)))
    | in-Marker+in_ok-push-in-Marker w ↦
        bells_of _ _ (cs ++ c.args.c ∷ []) w.self-is (h.rung ∙ sym (bells_same cs c.args.c (bells_shown _ (shown_as c.args.c _ c.class.ensures w.in-Marker.is))))
  ];
  cr = sym (ends_with_cr-last cs c.args.c);
}
