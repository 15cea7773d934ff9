-- The place inside a character that the reader's own tail stands for.
use Rattle.bt_json.specs.inner.Reading.{Place, tail}
use Rattle.bt_json.specs.declared.text.Tail.{Tail}

-- the place inside a character where these bytes may come, with so many more behind
abbrev pub place_of : Tail → Place
place_of t = tail t.low t.top t.more
