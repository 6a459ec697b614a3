-- What a file is, by computing.
use Rattle.std.proofs.Common.{◌≡◌, ℕ, List, [], ◌∷◌, ◌++◌, codes, map, refl}
use Rattle.std.specs.Str.{is_utf8, chars}
use Rattle.std.specs.Char.{encode_utf8}
use Rattle.report_spec.specs.declared.forms.FileForm.TheVariants.{Empty, Utf16, Nothing, Recording, Frames, Script, Recordings, Links}
use Rattle.report_spec.specs.Checking.{shown_at}
use Rattle.report_spec.specs.Forms.{form_of}

files_are : map form_of (
    [] ∷ codes "#!rtpplay1.0 a/1\n" ∷ (0 ∷ 0 ∷ 0 ∷ 0 ∷ []) ∷ (255 ∷ 254 ∷ 48 ∷ 0 ∷ []) ∷ codes "Hello.\n"
    ∷ codes "0 Hi\n" ∷ codes "# nothing\n" ∷ codes " 0.5 Hi\n" ∷ ((239 ∷ 187 ∷ 191 ∷ []) ++ codes "0 Hi\n")
    ∷ codes "Mixer 9 0 0\nleg A aware 1 a b\n" ∷ codes "leg A aware 1 5001 b\n" ∷ codes "leg A aware 1 a b:1\n" ∷ codes "leg A aware 1 5001 b:1 98 100\n"
    ∷ codes "leg \"Ann Lee\" aware 3 c c.out\n" ∷ [])
    ≡ (Empty ∷ Recording ∷ Frames ∷ Utf16 ∷ Nothing ∷ Script ∷ Script ∷ Script ∷ Script ∷ Recordings ∷ Links ∷ Links ∷ Links ∷ Recordings ∷ [])
unfolding is_utf8 chars encode_utf8
files_are = refl

octets_are : shown_at (7 ∷ 0 ∷ 30 ∷ 171 ∷ []) 1 ≡ codes "| 00 1e ab\n"
octets_are = refl

none_are : shown_at (7 ∷ []) 1 ≡ []
none_are = refl
