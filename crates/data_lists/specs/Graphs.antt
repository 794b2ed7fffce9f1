-- The edges that words and their lists stand for.
use Rattle.std.specs.Prelude.{List}
use Rattle.definitions.specs.Links.{Edge}
use Rattle.data_edges.specs.Words.{graph}
use Rattle.data_lists.specs.declared.Edges.{Edges}

abbrev pub edges_in : Edges → List Edge
edges_in es = graph es.words.now
