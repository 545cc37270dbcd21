-- What a sentence says: a fold over its tokens, from left to right, with the prefixes, the base and the graph as they
-- stand (RDF 1.1 TriG, sections 4.4 and 5).
-- It needs no tree: where a token stands in its sentence is told by what has been begun and not ended.
-- It is total: where a term may not stand, as in no sentence it does, it is passed over.
use Rattle.std.specs.Prelude.{ℕ, suc, List, [], ◌∷◌, ◌++◌, Option, Some, None, if◌then◌else◌, codes}
use Rattle.std.specs.Str.{bytes_eq}
use Rattle.rdf_terms.specs.Lists.{Text}
use Rattle.rdf_terms.specs.declared.term.Literal.{Literal as LiteralValue}
use Rattle.rdf_terms.specs.declared.term.LiteralKind.{LiteralKind}
use Rattle.rdf_terms.specs.declared.term.LiteralKind.TheVariants.{Typed, Tagged}
use Rattle.rdf_terms.specs.declared.term.Label.{Label}
use Rattle.rdf_terms.specs.declared.term.Label.TheVariants.{Named, Anonymous}
use Rattle.iri_resolve.specs.Resolution.{resolved}
use Rattle.iri_resolve.specs.Scheme.{begins_with_scheme}
use Rattle.trig_lexer.specs.declared.kind.Kind.{Kind}
use Rattle.trig_lexer.specs.declared.kind.Kind.TheVariants.{Dot, Semicolon, Carets, LeftBrace, RightBrace, LeftBracket, RightBracket, LeftParen, RightParen, WordA, AtPrefix, WordPrefix, AtBase, WordBase}
use Rattle.trig_terms.specs.declared.leaf.Leaf.{Leaf}
use Rattle.trig_terms.specs.declared.leaf.Leaf.TheVariants.{Mark, Iri as IriLeaf, Namespace, Name as PrefixedName, Label as LabelLeaf, Anonymous as AnonLeaf, Typed as TypedLeaf, Quoted as StringLeaf, Tag as TagLeaf}

-- ---- what is said

-- A term by what the document calls it.
pub data Said : Type 0 where
  Iri : Text → Said
  Node : Label → Said
  Literal : LiteralValue → Said

pub record StatedQuad : Type 0 where
  pub subject : Said
  pub predicate : Said
  pub object : Said
  pub graph_name : Option Said

-- ---- what has been told

-- Where the next term stands.
pub data Place : Type 0 where
  AtSubject : Place  -- the subject of triples, or the label of a graph
  AtVerb : Said → Place  -- the verb behind this subject, or a `{` behind this label
  AtObject : Said → Said → Place  -- an object of this subject and verb
  InItems : Option Said → Place  -- an item of a collection, of which this is the last cell so far
  AtItem : Said → Place  -- the item of this cell
  AtPrefixName : Place  -- the prefix that a directive sets
  AtPrefixIri : Place  -- the IRI that it sets the prefix to
  AtBaseIri : Place  -- the IRI that a directive sets the base to

pub record Told : Type 0 where
  pub place : Place
  pub outer : List Place  -- those that have been begun and not ended, the innermost first
  pub graph_name : Option Said
  pub opened : ℕ  -- how many anonymous nodes were opened
  pub mentioned : List Label  -- the nodes, as often as they were mentioned, in their order
  pub quads : List StatedQuad  -- in the order in which their objects were mentioned

abbrev pub nothing_told : Told
nothing_told = record { place = AtSubject; outer = []; graph_name = None; opened = 0; mentioned = []; quads = [] }

-- ---- names

abbrev pub rdf : Text → Text
rdf local = codes "http://www.w3.org/1999/02/22-rdf-syntax-ns#" ++ local

abbrev pub xsd : Text → Text
xsd local = codes "http://www.w3.org/2001/XMLSchema#" ++ local

abbrev pub rdf_first : Said
rdf_first = Iri (rdf (codes "first"))

abbrev pub rdf_rest : Said
rdf_rest = Iri (rdf (codes "rest"))

abbrev pub rdf_nil : Said
rdf_nil = Iri (rdf (codes "nil"))

-- ---- terms

-- the quad is said in the current graph
abbrev pub say : Said → Said → Said → Told → Told
say subject predicate object t =
    record t {
      quads = t.quads ++ record {
        subject = subject;
        predicate = predicate;
        object = object;
        graph_name = t.graph_name;
      } ∷ [];
    }

-- a literal is no subject
abbrev pub put_subject : Said → Told → Told
put_subject (Literal l) t = t
put_subject (Iri text) t = record t { place = AtVerb (Iri text) }
put_subject (Node label) t = record t { place = AtVerb (Node label) }

-- and only an IRI a verb
abbrev pub put_verb : Said → Said → Told → Told
put_verb subject (Literal l) t = t
put_verb subject (Node label) t = t
put_verb subject (Iri text) t = record t { place = AtObject subject (Iri text) }

abbrev pub put_item : Said → Said → Told → Told
put_item cell term t = record (say cell rdf_first term t) { place = InItems (Some cell) }

abbrev pub put_in : Place → Said → Told → Told
put_in AtSubject term t = put_subject term t
put_in (AtVerb subject) term t = put_verb subject term t
put_in (AtObject subject verb) term t = say subject verb term t
put_in (AtItem cell) term t = put_item cell term t
put_in _ term t = t

-- the term stands in the place
abbrev pub put : Said → Told → Told
put term t = put_in t.place term t

-- ---- blank nodes

abbrev pub mention : Label → Told → Told
mention label t = record t { mentioned = t.mentioned ++ label ∷ [] }

-- the blank node that is opened next
abbrev pub next_node : Told → Said
next_node t = Node (Anonymous t.opened)

abbrev pub open_node : Told → Told
open_node t = record (mention (Anonymous t.opened) t) { opened = suc t.opened }

-- ---- places

abbrev pub enter : Place → Told → Told
enter place t = record t { place = place; outer = t.place ∷ t.outer }

abbrev pub leave_to : List Place → Told → Told
leave_to [] t = record t { place = AtSubject; outer = [] }
leave_to (place ∷ outer) t = record t { place = place; outer = outer }

abbrev pub leave : Told → Told
leave t = leave_to t.outer t

abbrev pub turn_to : Place → Told → Told
turn_to place t = record t { place = place; outer = [] }

-- In a collection the cell of an item is opened just before the item. The first cell is what the collection stands for,
-- and each other one is the rest of the one before.
abbrev pub next_cell : Option Said → Said → Told → Told
next_cell None cell t = enter (AtItem cell) (put cell (leave t))
next_cell (Some before) cell t = record (say before rdf_rest cell t) { place = AtItem cell }

abbrev pub begin_item_in : Place → Told → Told
begin_item_in (InItems last) t = next_cell last (next_node t) (open_node t)
begin_item_in _ t = t

abbrev pub begin_item : Told → Told
begin_item t = begin_item_in t.place t

-- an IRI or a literal is met
abbrev pub meet : Said → Told → Told
meet term t = put term (begin_item t)

-- a label is met: it names one blank node in the whole document
abbrev pub meet_label : Text → Told → Told
meet_label name t = put (Node (Named name)) (mention (Named name) (begin_item t))

abbrev pub put_next : Told → Told
put_next t = put (next_node t) (open_node t)

-- an anonymous blank node is opened where a term may stand
abbrev pub meet_anonymous : Told → Told
meet_anonymous t = put_next (begin_item t)

abbrev pub enter_next : Told → Told
enter_next t = enter (AtVerb (next_node t)) (put_next t)

-- `[` opens an anonymous blank node, whose verbs stand inside
abbrev pub begin_properties : Told → Told
begin_properties t = enter_next (begin_item t)

-- `(`
abbrev pub begin_items : Told → Told
begin_items t = enter (InItems None) (begin_item t)

-- `)`: a collection without items stands for `rdf:nil`, and the last cell of any other has `rdf:nil` as its rest
abbrev pub end_items_in : Place → Told → Told
end_items_in (InItems None) t = put rdf_nil (leave t)
end_items_in (InItems (Some cell)) t = leave (say cell rdf_rest rdf_nil t)
end_items_in _ t = t

-- `;`: the next verb has the same subject
abbrev pub next_verb_in : Place → Told → Told
next_verb_in (AtObject subject verb) t = record t { place = AtVerb subject }
next_verb_in _ t = t

-- what stood before `{`, if anything, is the graph's label
abbrev pub graph_of : Place → Option Said
graph_of (AtVerb label) = Some label
graph_of _ = None

abbrev pub turn_to_graph : Option Said → Told → Told
turn_to_graph graph_name t = record (turn_to AtSubject t) { graph_name = graph_name }

-- ---- how far the document has come

-- why a token has no meaning
pub data Undefined : Type 0 where
  NoPrefix : Undefined
  NoBase : Undefined

-- a string whose suffix may follow: none was met yet, or `^^` was
pub data Pending : Type 0 where
  Plain : Text → Pending
  AwaitsType : Text → Pending

pub record State : Type 0 where
  pub told : Told
  pub prefixes : List (Text × Text)  -- the latest first
  pub base : Option Text
  pub setting : Option Text  -- the prefix that a directive sets
  pub pending : Option Pending
  pub undefined : Option Undefined  -- the first use without a definition

abbrev pub begin : Option Text → State
begin base =
    record { told = nothing_told; prefixes = []; base = base; setting = None; pending = None; undefined = None }

abbrev pub tell : (Told → Told) → State → State
tell f s = record s { told = f s.told }

abbrev pub undefine : Undefined → State → State
undefine why s = record s { undefined = Some why }

-- what the prefix was last set to
abbrev pub looked_up : List (Text × Text) → Text → Option Text
looked_up [] prefix = None
looked_up (p ∷ ps) prefix = if bytes_eq p.0 prefix then Some p.1 else looked_up ps prefix

abbrev pub resolved_by : Option Text → Text → Option Text
resolved_by None iri = None
resolved_by (Some base) iri = Some (resolved base iri)

-- an IRI with a scheme is taken as it is, and any other is resolved against the base
abbrev pub absolute : Option Text → Text → Option Text
absolute base iri = if begins_with_scheme iri then Some iri else resolved_by base iri

-- ---- leaves

abbrev pub set_prefix : Option Text → Text → List (Text × Text) → List (Text × Text)
set_prefix None iri prefixes = prefixes
set_prefix (Some prefix) iri prefixes = (prefix, iri) ∷ prefixes

abbrev pub meet_iri_in : Place → Text → State → State
meet_iri_in AtPrefixIri iri s =
    record (tell (turn_to AtSubject) s) { prefixes = set_prefix s.setting iri s.prefixes; setting = None }
meet_iri_in AtBaseIri iri s = record (tell (turn_to AtSubject) s) { base = Some iri }
meet_iri_in _ iri s = tell (meet (Iri iri)) s

-- the string becomes a literal of this kind
abbrev pub end_string : LiteralKind → Text → State → State
end_string kind lexical s =
    record (tell (put (Literal (record { lexical = lexical; kind = kind }))) s) { pending = None }

-- an absolute IRI is met, as a term, as a datatype, or in a directive
abbrev pub meet_absolute : Option Pending → Text → State → State
meet_absolute (Some (AwaitsType lexical)) iri s = end_string (Typed iri) lexical s
meet_absolute _ iri s = meet_iri_in s.told.place iri s

abbrev pub meet_iri : Option Text → Undefined → State → State
meet_iri None why s = undefine why s
meet_iri (Some iri) why s = meet_absolute s.pending iri s

abbrev pub behind_prefix : Option Text → Text → Option Text
behind_prefix None local = None
behind_prefix (Some iri) local = Some (iri ++ local)

abbrev pub meet_namespace_in : Place → Text → State → State
meet_namespace_in AtPrefixName prefix s = record (tell (turn_to AtPrefixIri) s) { setting = Some prefix }
meet_namespace_in _ prefix s = meet_iri (looked_up s.prefixes prefix) NoPrefix s

abbrev pub tell_mark : Kind → Told → Told
tell_mark AtPrefix t = turn_to AtPrefixName t
tell_mark WordPrefix t = turn_to AtPrefixName t
tell_mark AtBase t = turn_to AtBaseIri t
tell_mark WordBase t = turn_to AtBaseIri t
tell_mark WordA t = meet (Iri (rdf (codes "type"))) t
tell_mark Dot t = turn_to AtSubject t
tell_mark Semicolon t = next_verb_in t.place t
tell_mark LeftBrace t = turn_to_graph (graph_of t.place) t
tell_mark RightBrace t = turn_to_graph None t
tell_mark LeftBracket t = begin_properties t
tell_mark RightBracket t = leave t
tell_mark LeftParen t = begin_items t
tell_mark RightParen t = end_items_in t.place t
tell_mark _ t = t

-- a leaf that is no suffix of the string before it
abbrev pub meet_leaf : Leaf → State → State
meet_leaf (Mark kind) s = tell (tell_mark kind) s
meet_leaf (IriLeaf text) s = meet_iri (absolute s.base text) NoBase s
meet_leaf (Namespace prefix) s = meet_namespace_in s.told.place prefix s
meet_leaf (PrefixedName prefix local) s = meet_iri (behind_prefix (looked_up s.prefixes prefix) local) NoPrefix s
meet_leaf (LabelLeaf text) s = tell (meet_label text) s
meet_leaf AnonLeaf s = tell meet_anonymous s
meet_leaf (TypedLeaf lexical datatype) s = tell (meet (Literal (record { lexical = lexical; kind = Typed datatype }))) s
meet_leaf (StringLeaf lexical) s = record (tell begin_item s) { pending = Some (Plain lexical) }
meet_leaf (TagLeaf text) s = s

-- behind a string its suffix is met, or the string has none
abbrev pub meet_behind : Option Pending → Leaf → State → State
meet_behind (Some (Plain lexical)) (TagLeaf text) s = end_string (Tagged text) lexical s
meet_behind (Some (Plain lexical)) (Mark Carets) s = record s { pending = Some (AwaitsType lexical) }
meet_behind (Some (Plain lexical)) leaf s = meet_leaf leaf (end_string (Typed (xsd (codes "string"))) lexical s)
meet_behind _ leaf s = meet_leaf leaf s

abbrev pub meet_defined : Option Undefined → Leaf → State → State
meet_defined None leaf s = meet_behind s.pending leaf s
meet_defined (Some why) leaf s = s

-- The next leaf is met. Behind a use without a definition nothing is said.
unfoldable pub step : State → Leaf → State
step s leaf = meet_defined s.undefined leaf s

abbrev pub run : State → List Leaf → State
run s [] = s
run s (leaf ∷ leaves) = run (step s leaf) leaves

-- what the leaves of a document say
abbrev pub says : Option Text → List Leaf → State
says base leaves = run (begin base) leaves
