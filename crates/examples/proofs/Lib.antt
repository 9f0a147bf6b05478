mod Printed
mod Rows
mod Trees
