-- What a file is written in, by the ending of its name.
use Rattle.std.specs.Prelude.{ℕ, List, ◌≡◌, ◌++◌, ◌⊎◌, codes}
use Rattle.fast_check_source_files.specs.declared.languages.Language.{Language}
use Rattle.fast_check_source_files.specs.declared.languages.Language.TheVariants.{TypeScript, Declarations, JavaScript, Other}

-- a name has an ending
abbrev pub EndsWith : List ℕ → List ℕ → Type 0
EndsWith name ending = (front : List ℕ) × (name ≡ front ++ ending)

-- such a file has declarations alone
abbrev pub IsDeclarations : List ℕ → Type 0
IsDeclarations name = EndsWith name (codes ".d.ts") ⊎ EndsWith name (codes ".d.mts") ⊎ EndsWith name (codes ".d.cts")

-- such a file is TypeScript, unless it has declarations alone
abbrev pub IsTypeScript : List ℕ → Type 0
IsTypeScript name = EndsWith name (codes ".ts") ⊎ EndsWith name (codes ".tsx") ⊎ EndsWith name (codes ".mts") ⊎ EndsWith name (codes ".cts")

-- such a file is JavaScript
abbrev pub IsJavaScript : List ℕ → Type 0
IsJavaScript name = EndsWith name (codes ".js") ⊎ EndsWith name (codes ".jsx") ⊎ EndsWith name (codes ".mjs") ⊎ EndsWith name (codes ".cjs")

-- what a file of a name is written in
abbrev pub IsLanguage : List ℕ → Language → Type 0
IsLanguage name Declarations = IsDeclarations name
IsLanguage name TypeScript = IsTypeScript name × ¬ (IsDeclarations name)
IsLanguage name JavaScript = IsJavaScript name × ¬ (IsTypeScript name) × ¬ (IsDeclarations name)
IsLanguage name Other = ¬ (IsJavaScript name) × ¬ (IsTypeScript name) × ¬ (IsDeclarations name)
