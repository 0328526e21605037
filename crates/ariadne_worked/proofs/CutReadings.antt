-- Where lines are cut, reports that tell otherwise can have one picture.
use Rattle.std.specs.Prelude.{◌≡◌, refl, ◌∷◌, []}
use Rattle.ariadne_picture.specs.Report.{ConfigFields}
use Rattle.ariadne_worked.proofs.Sample.{drawn, picture, rows, one, label, unicode_config, configured}

unfoldable five_columns : ConfigFields
five_columns = record unicode_config { width = 5 }

-- the place of a label in a line of equal characters is not told
label_at_the_third_place :
    picture (one "aaaaaaa") (configured five_columns (label 2 3 "m" ∷ [])) ≡ rows (
    "Error: " ∷
    "   ╭─[ <unknown>:1:1 ]" ∷
    "   │" ∷
    " 1 │ …aaa…" ∷
    "   │   ┬  " ∷
    "   │   ╰── m" ∷
    "───╯" ∷ [])
unfolding drawn five_columns
label_at_the_third_place = refl

label_at_the_fourth_place :
    picture (one "aaaaaaa") (configured five_columns (label 3 4 "m" ∷ [])) ≡ rows (
    "Error: " ∷
    "   ╭─[ <unknown>:1:1 ]" ∷
    "   │" ∷
    " 1 │ …aaa…" ∷
    "   │   ┬  " ∷
    "   │   ╰── m" ∷
    "───╯" ∷ [])
unfolding drawn five_columns
label_at_the_fourth_place = refl
