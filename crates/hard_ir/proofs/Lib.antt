pub mod FunctionWidths
