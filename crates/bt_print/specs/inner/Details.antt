-- Lines while they are formed: words, and numbers and names that are said with them.
use Rattle.std.specs.Prelude.{ℕ, List, [], ◌++◌, codes, decimal}
use Rattle.bt_net.specs.NetText.{line}
use Rattle.bt_print.specs.declared.text.Detail.{Detail}
use Rattle.bt_print.specs.declared.text.Detail.TheVariants.{Nothing, Name, Number, Numbers, ThreeNumbers, NameAndNumber, NamesAndNumber, NumberAndName}
use Rattle.bt_print.specs.declared.text.Line.{Line}

-- each detail after a space
abbrev pub detail_text : Detail → List ℕ
detail_text Nothing = []
detail_text (Name name) = codes " " ++ name.now
detail_text (Number n) = codes " " ++ decimal n
detail_text (Numbers m n) = codes " " ++ decimal m ++ codes " " ++ decimal n
detail_text (ThreeNumbers l m n) = codes " " ++ decimal l ++ codes " " ++ decimal m ++ codes " " ++ decimal n
detail_text (NameAndNumber name n) = codes " " ++ name.now ++ codes " " ++ decimal n
detail_text (NamesAndNumber first second n) = codes " " ++ first.now ++ codes " " ++ second.now ++ codes " " ++ decimal n
detail_text (NumberAndName n name) = codes " " ++ decimal n ++ codes " " ++ name.now

-- the words and the details, and a line feed
abbrev pub line_text : Line → List ℕ
line_text l = line (l.0.now ++ detail_text l.1)
