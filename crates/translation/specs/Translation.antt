-- The translation of a file (01, "The translation"). `Fills` of `output` says what a call answers and leaves.
use Rattle.std.specs.Prelude.{List, ℕ}
use Rattle.translation.specs.Contents.{Contents, contents}
use Rattle.translation.specs.Translate.{translated}
use Rattle.translation.specs.Encode.{encode}

-- What its records say, and its bytes.
abbrev pub chip : List ℕ → Contents
chip f = translated (contents f)

unfoldable pub translation : List ℕ → List ℕ
translation f = encode (chip f)
