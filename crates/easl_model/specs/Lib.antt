pub mod Bodies
pub mod BodyFaults
pub mod Brackets
pub mod Checked
pub mod CheckedForm
pub mod Clauses
pub mod Conditions
pub mod Contexts
pub mod Cycles
pub mod Faults
pub mod Form
pub mod Grammar
pub mod HeaderFaults
pub mod Laws
pub mod Lexemes
pub mod Limits
pub mod Names
pub mod Nests
pub mod Paths
pub mod Rules
pub mod Spelling
pub mod Statements
pub mod Steps
pub mod Tokens
pub mod TreeLimits
pub mod Typed
pub mod TypedBodies
pub use Rattle.easl_model.specs.Bodies.{Body, bodies_from, bodies_in, bodies_of, constructor_body, constructor_or_implicit, method_body}
pub use Rattle.easl_model.specs.BodyFaults.{after, after_all, argument_differs, class_in, ends_unset, faults_of_argument, faults_of_arguments}
pub use Rattle.easl_model.specs.BodyFaults.{faults_of_assigned, faults_of_block, faults_of_body, faults_of_clause, faults_of_clauses, faults_of_declared}
pub use Rattle.easl_model.specs.BodyFaults.{faults_of_made, faults_of_new, faults_of_object, faults_of_path, faults_of_return, faults_of_sides}
pub use Rattle.easl_model.specs.BodyFaults.{faults_of_taken, faults_of_value, faults_of_written, field_unready, is_opaque, named_twice, new_by, no_class}
pub use Rattle.easl_model.specs.BodyFaults.{no_name, params_of, place_of_argument, reads_unset, set_by, sides_differ, target_of_argument, target_of_value}
pub use Rattle.easl_model.specs.BodyFaults.{this_assigned, this_unready, value_differs, wrong_number}
pub use Rattle.easl_model.specs.Brackets.{IsFirstDeep, Shallow, StaysShallow, level_after, turned}
pub use Rattle.easl_model.specs.Checked.{IsChecked, IsInRange, Spells}
pub use Rattle.easl_model.specs.CheckedForm.{act_of, acts_of, argument_by, argument_of, assigned_by, class_number, classes_from, form_of, has_values}
pub use Rattle.easl_model.specs.CheckedForm.{method_of, position_in, positions_along, reach_by, reach_of, source_of, test_of, tests_of}
pub use Rattle.easl_model.specs.Clauses.{Clause, clause_of, clauses, more}
pub use Rattle.easl_model.specs.Conditions.{Condition, condition_of, conditions, rooted}
pub use Rattle.easl_model.specs.Contexts.{assigned, is_empty, is_unset, start_of, variable_named, variable_of}
pub use Rattle.easl_model.specs.Cycles.{calls, classes_made, cycles_from, faults_of_cycles, leads_back, made_by, new_in, news_in, news_of}
pub use Rattle.easl_model.specs.Faults.{broken_if, earlier, fault, first_of, first_with, number_of, stands_before}
pub use Rattle.easl_model.specs.Form.{ActInRange, ActsInRange, ClassInRange, MethodInRange, SourceInRange, constructor_of, field_names_of, fields_of}
pub use Rattle.easl_model.specs.Grammar.{IsAll, IsAlls, IsAny, IsArg, IsAtom, IsAtoms, IsBlock, IsClass, IsClause, IsComparison, IsFields, IsGuard, IsListed}
pub use Rattle.easl_model.specs.Grammar.{IsMany, IsMember, IsMore, IsParam, IsParams, IsPath, IsResult, IsReturn, IsSet, IsSpec, IsStep, IsSteps, IsType}
pub use Rattle.easl_model.specs.Grammar.{IsValue, all_more, all_one, any_more, any_one, assign, block, class, class_type, clause, comparison, constructor}
pub use Rattle.easl_model.specs.Grammar.{declare, differ, field, group, guard, if_alone, if_else, listed, literal_arg, method, named_path, new_value}
pub use Rattle.easl_model.specs.Grammar.{next_all, next_atom, next_field, next_of, next_step, no_alls, no_atoms, no_fields, no_more, no_result, no_steps}
pub use Rattle.easl_model.specs.Grammar.{none_of, nothing, one_more, opaque_key, opaque_type, param, params, path_arg, path_value, same, set, some_result}
pub use Rattle.easl_model.specs.Grammar.{spec, this_path, with_return}
pub use Rattle.easl_model.specs.HeaderFaults.{faults_of_class, faults_of_header, faults_of_headers, no_type, other_name, second_constructors, second_names}
pub use Rattle.easl_model.specs.Laws.{FormIsInRange, FormIsTyped, FormNests}
pub use Rattle.easl_model.specs.Lexemes.{IsKey, IsLiteral, IsMark, IsName, TokensAreWritten, bytes_of, is_literal, may_cut, word_of}
pub use Rattle.easl_model.specs.Limits.{ActHasFewArguments, ActsHaveFewArguments, HasFewArguments, MethodKeepsLimits, body_of, constructor_count}
pub use Rattle.easl_model.specs.Limits.{count_in_place, count_of, statement_count, total_count, value_count, written_by, written_in}
pub use Rattle.easl_model.specs.Names.{class_named, class_of, codes_in, constructor_in, constructors_in, field_among, field_named, fields_in, is_same}
pub use Rattle.easl_model.specs.Names.{members_of, methods_in}
pub use Rattle.easl_model.specs.Nests.{ConstructorsNest, NestsWithin, OfMade, OfStatement, OfStatements}
pub use Rattle.easl_model.specs.Paths.{Way, along, but_last, end_of, field_of_this, from_this, is_this, is_this_by, named_way, owner_of, slot_target}
pub use Rattle.easl_model.specs.Paths.{target_of, valued, way_by, way_of}
pub use Rattle.easl_model.specs.Rules.{IsWellFormed, faults_of_bodies, faults_of_lengths, first_fault, too_long}
pub use Rattle.easl_model.specs.Spelling.{Ends, FirstWrong, OneTree, first_place}
pub use Rattle.easl_model.specs.Statements.{Change, Local, Statement, Write, statement_of, statements_of}
pub use Rattle.easl_model.specs.Steps.{Assign, Block, Declare, Written, block_of, written_of}
pub use Rattle.easl_model.specs.Tokens.{AreTokens, Cut, CutTo, EndsLine, EndsQuoted, IsBadTokenAt, IsGap, IsLongest, IsNotUtf8At, IsPart, IsPiece, IsStuckAt}
pub use Rattle.easl_model.specs.Tokens.{IsToken, IsWord, NoPiece, OneListOfTokens, backslash, begins_name, byte_len, closed, comment, done, escaped, gap}
pub use Rattle.easl_model.specs.Tokens.{is_white, key_text, line_comment, line_end, mark_text, place_after, plain, quote, token, token_at, white}
pub use Rattle.easl_model.specs.TreeLimits.{IsWithinLimits, beyond, comparisons_in, comparisons_of, conditionals_at, conditionals_in, excess_at, excess_in}
pub use Rattle.easl_model.specs.TreeLimits.{excess_of, excess_of_argument, excess_of_class, excess_of_clause, excess_of_code, excess_of_condition}
pub use Rattle.easl_model.specs.TreeLimits.{excess_of_path, excess_of_value, first_excess, paths_in, paths_of, statements_at, statements_in}
pub use Rattle.easl_model.specs.Typed.{AreSides, AreTypedConditions, Gives, IsOf, IsReady, IsTypedCondition, Standing, Takes, class_at, class_behind}
pub use Rattle.easl_model.specs.Typed.{is_among, slot_class, taken_by}
pub use Rattle.easl_model.specs.TypedBodies.{AreTyped, EndsSo, IsTyped, IsTypedMethod, IsTypedStatement, Returns, behind_both, left_by, standing_of}
