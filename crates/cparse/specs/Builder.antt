-- What a builder holds, its boxes aside.
use Rattle.std.specs.Prelude.{◌≡◌, Bool, true, false, List, Some, None}
use Rattle.csyn.specs.declared.token.Token.{Token}
use Rattle.creader.specs.declared.reader.Entry.{Entry}
use Rattle.cparse.specs.declared.build.Builder.{Builder}
use Rattle.cparse.specs.Build.{Built, built, build_one}
use Rattle.cparts.specs.Value.{bare_values}

abbrev pub built_of : Builder → Built
built_of builder = built (bare_values builder.values) builder.nodes

-- one production
abbrev pub Steps : List Token → Entry → Bool → Built → Built → Type 0
Steps tokens entry true before after = build_one tokens before entry ≡ Some after
Steps tokens entry false before after = build_one tokens before entry ≡ None
