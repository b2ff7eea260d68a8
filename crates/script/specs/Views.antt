-- What a cursor has before it.
use Rattle.std.specs.Prelude.{ℕ, List}
use Rattle.script.specs.declared.cursor.Cursor.{Cursor}

abbrev pub rest_of : Cursor → List ℕ
rest_of c = c.rest.now
